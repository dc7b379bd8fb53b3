use Rattle.std.proofs.Common.{◌≡◌}
use Rattle.replay_state.specs.Arrivals.{source}
use Rattle.replay_state.proofs.pipe.Pipe.of_arrivals.Given as goal

abbrev pub invariant-loop-arrival : goal.invariant-loop-arrival
invariant-loop-arrival l = l.pipe ≡ source l.link l.yielded
