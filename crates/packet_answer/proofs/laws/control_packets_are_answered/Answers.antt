use Rattle.packet_answer.proofs.AnswerLemmas.{are_answered}
use Rattle.packet_answer.proofs.laws.control_packets_are_answered.Goals as goal

pub returns : goal.returns
returns c = are_answered
