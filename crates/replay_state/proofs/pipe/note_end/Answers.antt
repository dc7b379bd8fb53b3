use Rattle.std.proofs.Common.{rules}
use Rattle.replay_state.proofs.pipe.note_end.Goals as goal

pub returns-else-is_end : goal.returns-else-is_end
returns-else-is_end c = search rules
