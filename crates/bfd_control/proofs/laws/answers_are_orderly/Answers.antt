use Rattle.bfd_control.proofs.AnswerLemmas.{orderly}
use Rattle.bfd_control.proofs.laws.answers_are_orderly.Goals as goal

pub returns : goal.returns
returns c = orderly
