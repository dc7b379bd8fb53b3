use Rattle.std.proofs.Common.{◌≡◌, ◌++◌, drop}
use Rattle.metrics_text.specs.Samples.{links_text}
use Rattle.metrics_text.proofs.samples.push_links.Given as goal

abbrev pub invariant-loop-link : goal.invariant-loop-link
invariant-loop-link l = l.text.items ++ links_text l.name l.figure (drop l.link-index l.links) ≡ l.fn.text.items ++ links_text l.name l.figure l.links
