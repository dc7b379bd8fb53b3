use Rattle.process_packet.proofs.PortLemmas.{listen_so}
use Rattle.process_packet.proofs.laws.hosts_listen_so.Goals as goal

pub returns : goal.returns
returns c = listen_so c.udp_gives_its_destination.ensures
