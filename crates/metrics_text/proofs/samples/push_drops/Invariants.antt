use Rattle.std.proofs.Common.{◌≡◌, ◌++◌, drop}
use Rattle.metrics_text.specs.Samples.{drops_of}
use Rattle.metrics_text.proofs.samples.push_drops.Given as goal

abbrev pub invariant-loop-cause : goal.invariant-loop-cause
invariant-loop-cause l = l.text.items ++ drops_of l.totals (drop l.cause-index l.causes) ≡ l.fn.text.items ++ drops_of l.totals l.causes
