-- What each configuration says of its router, and a net of configurations of its routers.
use Rattle.std.specs.Prelude.{◌≡◌, ◌≤◌, ℕ, Some}
use Rattle.process_packet.specs.declared.config.Config.{Config}
use Rattle.process_packet.specs.declared.neighbours.Link.{Link}
use Rattle.net_laws.specs.declared.net.Net as declared
use Rattle.net_laws.specs.Net.{Net, Router, net_of, router_at}
use Rattle.process_packet.specs.Network.{network, own_link}

-- links are numbered from 1
abbrev pub AreNumbered : Net → Type 0
AreNumbered net = (r : ℕ) (x : Router) (id : ℕ) (l : Link) → router_at net r ≡ Some x → own_link x.network id ≡ Some l → 1 ≤ id

pub record LinksAreNumbered : Type 0 where
  pub config : (c : Config) (id : ℕ) (l : Link) → own_link (network c) id ≡ Some l → 1 ≤ id
  pub net : (n : declared.Net) → AreNumbered (net_of n)
