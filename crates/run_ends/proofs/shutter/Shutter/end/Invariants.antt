use Rattle.run_ends.specs.Shutting.{IsStill}
use Rattle.run_ends.proofs.shutter.Shutter.end.Given as goal

abbrev pub invariant-loop : goal.invariant-loop
invariant-loop g l = IsStill l.fn.self l.self
