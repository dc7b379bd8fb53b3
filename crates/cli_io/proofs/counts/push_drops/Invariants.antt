use Rattle.std.proofs.Common.{◌≡◌, ◌++◌, ◌+◌, drop}
use Rattle.cli_io.specs.Counts.{drops_text}
use Rattle.cli_io.proofs.counts.push_drops.Given as goal

abbrev pub invariant-loop-index : goal.invariant-loop-index
invariant-loop-index l = l.text.items ++ drops_text (l.index + 1) (drop l.index l.dropped) ≡ l.fn.text.items ++ drops_text 1 l.dropped
