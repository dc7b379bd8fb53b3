use Rattle.run_ends.specs.Opened.{AreNewPipes}
use Rattle.run_ends.proofs.opening.new_pipes.Given as goal

abbrev pub invariant-loop-k : goal.invariant-loop-k
invariant-loop-k g l = AreNewPipes (λ _. l.capacity) l.producers l.k l.opened.pipes.items l.opened.takers.items
