use Rattle.run_ends.specs.Opened.{AreNewPipes}
use Rattle.run_pipes.specs.Piping.{egress_capacity}
use Rattle.run_pipes.proofs.pipes.egress_pipes.Given as goal

abbrev pub invariant-loop-at : goal.invariant-loop-at
invariant-loop-at g l = AreNewPipes (egress_capacity l.shared.config) l.producers l.at l.opened.pipes.items l.opened.takers.items
