use Rattle.std.proofs.lemmas.Grind.{elements}
use Rattle.std.proofs.Common.{arith}
use Rattle.replay_state.proofs.bytes.Bytes.try_clone.Goals as goal

pub returns : goal.returns
returns c = grind (arith, elements)
