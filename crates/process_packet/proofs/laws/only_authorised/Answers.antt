use Rattle.process_packet.specs.PacketState.{arrives}
use Rattle.process_packet.proofs.LawLemmas.{came_in, told}
use Rattle.process_packet.proofs.laws.only_authorised.Goals as goal

pub returns : goal.returns
returns c n link source moment bytes out to p sent = (came_in (arrives n link source moment bytes) out to p (told n link source moment bytes out to p sent)).authorised
