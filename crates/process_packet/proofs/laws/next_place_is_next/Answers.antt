use Rattle.process_packet.proofs.LawLemmas.{next_is}
use Rattle.process_packet.proofs.laws.next_place_is_next.Goals as goal

pub returns : goal.returns
returns c = next_is
