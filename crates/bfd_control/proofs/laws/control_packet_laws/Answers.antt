use Rattle.bfd_control.proofs.PacketLemmas.{packet_only, packet_spelled}
use Rattle.bfd_control.proofs.laws.control_packet_laws.Goals as goal

pub returns : goal.returns
returns c = record { spelled = packet_spelled; only = packet_only }
