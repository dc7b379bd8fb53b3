use Rattle.std.proofs.Common.{arith}
use Rattle.replay_steps.proofs.state.State.may_take.Goals as goal

pub returns-else-not-has_two_bands : goal.returns-else-not-has_two_bands
returns-else-not-has_two_bands c = grind arith steps 1000000
