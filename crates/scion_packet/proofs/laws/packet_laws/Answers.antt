use Rattle.scion_packet.proofs.PacketLaws.{packet_only, packet_passes, packet_spelled}
use Rattle.scion_packet.proofs.laws.packet_laws.Goals as goal

pub returns : goal.returns
returns c = record { spelled = packet_spelled; passes = packet_passes; only = packet_only }
