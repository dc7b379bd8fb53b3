use Rattle.std.proofs.Common.{nat_lt}
use Rattle.worker_parts.specs.Outlets.{Trying}
use Rattle.worker_parts.proofs.outlets.end_all.Given as goal

abbrev pub invariant-loop-at : goal.invariant-loop-at
invariant-loop-at g l = Trying (λ j. nat_lt j l.at) l.initial.ends.items l.ends.items l.all
