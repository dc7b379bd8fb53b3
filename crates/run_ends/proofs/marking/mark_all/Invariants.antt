use Rattle.run_ends.specs.Shutting.{EndsUpTo}
use Rattle.run_ends.proofs.marking.mark_all.Given as goal

abbrev pub invariant-loop-k : goal.invariant-loop-k
invariant-loop-k g l = EndsUpTo l.k l.fn.shutters.items l.shutters.items
