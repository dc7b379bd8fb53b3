use Rattle.std.proofs.Common.{◌≡◌, ◌++◌, drop, map}
use Rattle.topology.specs.Interface.{link_values}
use Rattle.config_text.specs.Members.{links_text}
use Rattle.config_text.proofs.members.push_links.Given as goal

abbrev pub invariant-loop-link : goal.invariant-loop-link
invariant-loop-link l = l.text.items ++ links_text (map link_values (drop l.link-index l.links)) ≡ l.fn.text.items ++ links_text (map link_values l.links)
