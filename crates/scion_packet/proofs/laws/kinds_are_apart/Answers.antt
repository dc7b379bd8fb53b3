use Rattle.scion_packet.proofs.OneHopLaws as one_hop
use Rattle.scion_packet.proofs.laws.kinds_are_apart.Goals as goal

pub returns : goal.returns
returns c = one_hop.kinds_are_apart
