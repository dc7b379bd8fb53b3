use Rattle.host_ports.proofs.GivenLemmas.{udp_gives}
use Rattle.host_ports.proofs.laws.udp_gives_its_destination.Goals as goal

pub returns : goal.returns
returns c = udp_gives
