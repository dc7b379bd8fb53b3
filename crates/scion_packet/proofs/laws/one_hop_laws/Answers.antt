use Rattle.scion_packet.proofs.OneHopLaws.{one_hop_only, one_hop_packet_passes, one_hop_spelled}
use Rattle.scion_packet.proofs.laws.one_hop_laws.Goals as goal

pub returns : goal.returns
returns c = record { spelled = one_hop_spelled; passes = one_hop_packet_passes; only = one_hop_only }
