use Rattle.process_packet.proofs.OneHopByteLemmas.{differ_in_place}
use Rattle.process_packet.proofs.laws.one_hops_differ_in_place.Goals as goal

pub returns : goal.returns
returns c = differ_in_place
