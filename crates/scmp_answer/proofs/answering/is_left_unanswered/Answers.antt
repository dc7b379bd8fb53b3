use Rattle.std.proofs.Common.{rules}
use Rattle.scmp_answer.proofs.answering.is_left_unanswered.Goals as goal

pub returns-in-Scmp : goal.returns-in-Scmp
returns-in-Scmp c = search rules
