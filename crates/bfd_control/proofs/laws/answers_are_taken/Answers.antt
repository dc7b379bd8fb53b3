use Rattle.bfd_control.proofs.AnswerLemmas.{taken_back}
use Rattle.bfd_control.proofs.laws.answers_are_taken.Goals as goal

pub returns : goal.returns
returns c = taken_back
