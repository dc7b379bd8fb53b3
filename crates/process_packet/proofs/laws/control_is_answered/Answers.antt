use Rattle.process_packet.proofs.ControlAnswered.{control_answered}
use Rattle.process_packet.proofs.laws.control_is_answered.Goals as goal

pub returns : goal.returns
returns c = control_answered
