use Rattle.process_packet.proofs.PointerLemmas.{pointers_right}
use Rattle.process_packet.proofs.laws.pointers_are_right.Goals as goal

pub returns : goal.returns
returns c = pointers_right
