use Rattle.path_authorisation.proofs.AnswerLemmas.{answers_back}
use Rattle.path_authorisation.proofs.laws.answers_go_back.Goals as goal

pub returns : goal.returns
returns c = answers_back
