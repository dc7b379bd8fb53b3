use Rattle.process_packet.proofs.ValleyLemmas.{ways_free}
use Rattle.process_packet.proofs.laws.ways_are_valley_free.Goals as goal

pub returns : goal.returns
returns c = ways_free
