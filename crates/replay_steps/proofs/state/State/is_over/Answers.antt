use Rattle.std.proofs.Common.{arith}
use Rattle.replay_steps.proofs.state.State.is_over.Goals as goal

pub returns-in-Processor : goal.returns-in-Processor
returns-in-Processor c = grind arith steps 1000000
