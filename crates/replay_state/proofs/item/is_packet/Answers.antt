use Rattle.std.proofs.Common.{rules}
use Rattle.replay_state.proofs.item.is_packet.Goals as goal

pub returns : goal.returns
returns c = search rules
