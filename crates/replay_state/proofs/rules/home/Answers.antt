use Rattle.std.proofs.Common.{rules}
use Rattle.replay_state.proofs.rules.home.Goals as goal

pub returns-in-Packet : goal.returns-in-Packet
returns-in-Packet c = search rules
