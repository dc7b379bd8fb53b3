-- The example's net agrees.
use Rattle.std.proofs.Common.{refl}
use Rattle.net_laws.specs.Net.{Agrees}
use Rattle.net_laws.proofs.AgreementLemmas.{net_decides}
use Rattle.net_laws.specs.Example.{example_net}

pub net_agrees : Agrees example_net
net_agrees = (net_decides example_net).0 refl
