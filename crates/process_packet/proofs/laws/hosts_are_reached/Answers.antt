use Rattle.process_packet.proofs.HostLemmas.{is_reached}
use Rattle.process_packet.proofs.laws.hosts_are_reached.Goals as goal

pub returns : goal.returns
returns c = is_reached
