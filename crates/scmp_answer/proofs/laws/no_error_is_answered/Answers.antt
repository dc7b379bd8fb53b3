use Rattle.scmp_answer.proofs.UnansweredLemmas.{none_answered}
use Rattle.scmp_answer.proofs.laws.no_error_is_answered.Goals as goal

pub returns : goal.returns
returns c = none_answered
