-- An AS, and its routers.
use Rattle.std.specs.Prelude.{◌≡◌, ℕ}
use Rattle.net_laws.specs.Net.{Router}

-- an AS, by its isolation domain and its number
pub record Domain : Type 0 where
  pub isd : ℕ
  pub autonomous_system : ℕ

-- the router is one of this AS
pub record IsOf (x : Router) (d : Domain) : Type 0 where
  pub isd : x.network.isd ≡ d.isd
  pub autonomous_system : x.network.autonomous_system ≡ d.autonomous_system

-- the AS of a router
abbrev pub domain_of : Router → Domain
domain_of x = record { isd = x.network.isd; autonomous_system = x.network.autonomous_system }
