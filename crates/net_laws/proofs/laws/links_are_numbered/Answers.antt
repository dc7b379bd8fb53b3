use Rattle.net_laws.proofs.ConfiguredLemmas.{links_numbered, net_numbered}
use Rattle.net_laws.proofs.laws.links_are_numbered.Goals as goal

pub returns : goal.returns
returns c = record { config = links_numbered; net = net_numbered }
