use Rattle.std.proofs.lemmas.Grind.{common_steps}
use Rattle.std.proofs.Common.{arith}
use Rattle.replay_state.proofs.pipe.Pipe.has_room.Goals as goal

pub returns : goal.returns
returns c = grind (arith, common_steps)
