use Rattle.std.proofs.Common.{◌≡◌}
use Rattle.replay_state.specs.Arrivals.{sources_from}
use Rattle.replay_steps.proofs.state.sources.Given as goal

abbrev pub invariant-loop-of_link : goal.invariant-loop-of_link
invariant-loop-of_link l = l.pipes.items ≡ sources_from 0 l.yielded
