-- Where the two routers of the example agree.
use Rattle.std.proofs.Common.{◌≡◌, true, false, None, refl}
use Rattle.net_laws.proofs.AgreementLemmas.{net_decides}
use Rattle.net_laws.specs.ExamplePorts.{PortsAgree, ports, twins}

pub ports_agree : PortsAgree
ports_agree = record {
  same = (net_decides (twins (ports 1024 65535) (ports 1024 65535))).0 refl;
  without = (net_decides (twins None None)).0 refl;
  another_first = λ is. let never : false ≡ true = (net_decides (twins (ports 1024 65535) (ports 1025 65535))).1 is in absurd cc;
  another_last = λ is. let never : false ≡ true = (net_decides (twins (ports 1024 65535) (ports 1024 65534))).1 is in absurd cc;
  one_without = λ is. let never : false ≡ true = (net_decides (twins None (ports 1024 65535))).1 is in absurd cc;
  other_without = λ is. let never : false ≡ true = (net_decides (twins (ports 1024 65535) None)).1 is in absurd cc;
}
