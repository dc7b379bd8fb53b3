use Rattle.scion_packet.proofs.PacketLaws as packet
use Rattle.scion_packet.proofs.laws.path_written_over.Goals as goal

pub returns : goal.returns
returns c = packet.path_written_over
