-- A net: border routers of many ASes, and the wires between their links.
use Rattle.std.specs.Prelude.{◌≡◌, ◌≢◌, ◌⊎◌, ℕ, List, Contains, map, Option, Some, None}
use Rattle.std.specs.List.{slice_get}
use Rattle.scion_header.specs.declared.domain.Domain.{Domain}
use Rattle.segment_switch.specs.declared.kind.LinkKind.{LinkKind}
use Rattle.segment_switch.specs.declared.kind.LinkKind.TheVariants.{Core, Parent, Child}
use Rattle.process_packet.specs.declared.config.Config.{Config}
use Rattle.process_packet.specs.declared.neighbours.Link.{Link}
use Rattle.process_packet.specs.declared.neighbours.Service.{Service}
use Rattle.process_packet.specs.declared.neighbours.Sibling.{Sibling}
use Rattle.net_laws.specs.declared.net.End.{End}
use Rattle.net_laws.specs.declared.net.Net as declared
use Rattle.net_laws.specs.declared.net.Wire.{Wire}
use Rattle.process_packet.specs.declared.underlay.Underlay.{Underlay}
use Rattle.process_packet.specs.Network.{Network, network, own_link, sibling}

-- what a net knows of a router: what its decisions look at, and its address within the AS
pub record Router : Type 0 where
  pub network : Network
  pub internal : Underlay

pub record Net : Type 0 where
  pub routers : List Router
  pub wires : List Wire

abbrev pub router_of : Config → Router
router_of c = record { network = network c; internal = c.internal }

abbrev pub net_of : declared.Net → Net
net_of n = record { routers = map router_of n.configs.items; wires = n.wires.items }

abbrev pub router_at : Net → ℕ → Option Router
router_at net r = slice_get net.routers r

abbrev pub end_at : ℕ → ℕ → End
end_at router link = record { router = router; link = link }

pub record AreOfOneAS (x y : Router) : Type 0 where
  pub isd : x.network.isd ≡ y.network.isd
  pub autonomous_system : x.network.autonomous_system ≡ y.network.autonomous_system

-- what the AS at one end of a link is to the other one, seen from the other end
abbrev pub opposite : LinkKind → LinkKind
opposite Core = Core
opposite Parent = Child
opposite Child = Parent

-- a wire joins both ends, whichever it names first
abbrev pub Joined : Net → End → End → Type 0
Joined net a b = Contains net.wires (record { one = a; other = b }) ⊎ Contains net.wires (record { one = b; other = a })

-- ---- a net that agrees

-- The router lists a link of another router of its AS as a sibling's interface, and has no link of this number itself.
pub record Lists (x y : Router) (l : Link) : Type 0 where
  pub not_own : own_link x.network l.id ≡ None
  pub entry : Sibling
  pub listed : sibling x.network l.id ≡ Some entry
  pub at : entry.at ≡ y.internal
  pub kind : entry.kind ≡ l.kind

-- Routers of one AS know the same of it. Two of them have different addresses and interfaces, and each lists the other's.
pub record AgreeWithin (r q : ℕ) (x y : Router) : Type 0 where
  pub key : x.network.key ≡ y.network.key
  pub host_port : x.network.host_port ≡ y.network.host_port
  pub dispatched_ports : x.network.dispatched_ports ≡ y.network.dispatched_ports
  pub services : (s : Service) → Contains x.network.services s → Contains y.network.services s
  pub internal : r ≢ q → x.internal ≢ y.internal
  pub siblings : r ≢ q → (l : Link) → Contains y.network.links l → Lists x y l

-- If an AS is named, it is that of this router.
pub record IsNamed (named : Option Domain) (y : Router) : Type 0 where
  pub isd : (d : Domain) → named ≡ Some d → d.isd ≡ y.network.isd
  pub autonomous_system : (d : Domain) → named ≡ Some d → d.autonomous_system ≡ y.network.autonomous_system

-- A wire joins two links of the net. Each has the other's address as its remote one, and they see each other as opposite kinds.
-- If a link names the AS at its other end, that is the AS of the router there.
pub record IsWire (net : Net) (w : Wire) : Type 0 where
  pub one : Router
  pub other : Router
  pub one_is : router_at net w.one.router ≡ Some one
  pub other_is : router_at net w.other.router ≡ Some other
  pub out : Link
  pub into : Link
  pub out_is : own_link one.network w.one.link ≡ Some out
  pub into_is : own_link other.network w.other.link ≡ Some into
  pub remote : out.remote ≡ into.local
  pub remote_back : into.remote ≡ out.local
  pub kinds : into.kind ≡ opposite out.kind
  pub out_names : IsNamed out.neighbor other
  pub into_names : IsNamed into.neighbor one
  pub different : w.one ≢ w.other

-- no end of the one wire is one of the other
pub record AreApart (v w : Wire) : Type 0 where
  pub one_one : v.one ≢ w.one
  pub one_other : v.one ≢ w.other
  pub other_one : v.other ≢ w.one
  pub other_other : v.other ≢ w.other

pub record Agrees (net : Net) : Type 0 where
  pub within : (r q : ℕ) (x y : Router) → router_at net r ≡ Some x → router_at net q ≡ Some y → AreOfOneAS x y → AgreeWithin r q x y
  pub wires : (w : Wire) → Contains net.wires w → IsWire net w
  -- a link is on at most one wire
  pub apart : (j k : ℕ) (v w : Wire) → slice_get net.wires j ≡ Some v → slice_get net.wires k ≡ Some w → j ≢ k → AreApart v w
