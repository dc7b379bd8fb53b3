use Rattle.process_packet.proofs.DeliveredLemmas.{to_its_host}
use Rattle.process_packet.proofs.laws.delivers_to_its_host.Goals as goal

pub returns : goal.returns
returns c = to_its_host
