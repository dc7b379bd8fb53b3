use Rattle.run_pipes.specs.Filling.{HasPut}
use Rattle.run_pipes.proofs.filling.fill_one.Given as goal

abbrev pub invariant-loop-put : goal.invariant-loop-put
invariant-loop-put g l = HasPut l.put l.fn.end l.end
