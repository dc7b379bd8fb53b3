use Rattle.bfd_answer.proofs.CrossingLemmas.{answered}
use Rattle.bfd_answer.proofs.laws.control_packets_are_answered.Goals as goal

pub returns : goal.returns
returns c = answered
