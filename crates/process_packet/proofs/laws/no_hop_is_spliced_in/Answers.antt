use Rattle.process_packet.proofs.ChainingLemmas.{not_spliced}
use Rattle.process_packet.proofs.laws.no_hop_is_spliced_in.Goals as goal

pub returns : goal.returns
returns c = not_spliced
