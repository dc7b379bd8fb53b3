use Rattle.bfd_answer.proofs.CrossingLemmas.{crosses}
use Rattle.bfd_answer.proofs.laws.answers_cross.Goals as goal

pub returns : goal.returns
returns c = crosses
