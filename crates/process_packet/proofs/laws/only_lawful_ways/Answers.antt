use Rattle.process_packet.specs.PacketState.{arrives}
use Rattle.process_packet.proofs.LawLemmas.{left_lawfully, told}
use Rattle.process_packet.proofs.laws.only_lawful_ways.Goals as goal

pub returns : goal.returns
returns c n link source moment bytes out to p sent = (left_lawfully (arrives n link source moment bytes) out to p (told n link source moment bytes out to p sent)).lawfully
