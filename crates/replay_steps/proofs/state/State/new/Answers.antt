use Rattle.std.proofs.Common.{arith}
use Rattle.replay_steps.proofs.state.State.new.Goals as goal

pub returns : goal.returns
returns c = grind arith steps 1000000
