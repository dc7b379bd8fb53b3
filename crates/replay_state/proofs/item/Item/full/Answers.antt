use Rattle.std.proofs.Common.{rules}
use Rattle.replay_state.proofs.item.Item.full.Goals as goal

pub returns-in-Request : goal.returns-in-Request
returns-in-Request c = search rules
