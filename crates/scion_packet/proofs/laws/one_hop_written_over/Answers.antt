use Rattle.scion_packet.proofs.OneHopLaws as one_hop
use Rattle.scion_packet.proofs.laws.one_hop_written_over.Goals as goal

pub returns : goal.returns
returns c = one_hop.one_hop_written_over
