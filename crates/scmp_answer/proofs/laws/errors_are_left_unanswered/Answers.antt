use Rattle.scmp_answer.proofs.UnansweredLemmas.{left_unanswered}
use Rattle.scmp_answer.proofs.laws.errors_are_left_unanswered.Goals as goal

pub returns : goal.returns
returns c = left_unanswered
