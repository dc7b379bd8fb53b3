-- What is told of the first thing in a net that doesn't fit.
use Rattle.std.specs.Prelude.{◌≡◌, ◌≢◌, ◌⊎◌, ◌<◌, ℕ, List, Contains, Option, Some, None}
use Rattle.std.specs.List.{slice_get}
use Rattle.process_packet.specs.declared.neighbours.Link.{Link}
use Rattle.process_packet.specs.declared.neighbours.Service.{Service}
use Rattle.process_packet.specs.declared.neighbours.Sibling.{Sibling}
use Rattle.process_packet.specs.Network.{own_link, sibling}
use Rattle.net_laws.specs.Agreement.{link_at}
use Rattle.net_laws.specs.Net.{AgreeWithin, AreApart, AreOfOneAS, IsNamed, IsWire, Net, Router, opposite, router_at}
use Rattle.net_laws.specs.declared.misfit.Difference.{Difference}
use Rattle.net_laws.specs.declared.misfit.Difference.TheVariants as difference
use Rattle.net_laws.specs.declared.misfit.Misfit.{Misfit}
use Rattle.net_laws.specs.declared.misfit.Misfit.TheVariants as misfit
use Rattle.net_laws.specs.declared.misfit.Mismatch.{Mismatch}
use Rattle.net_laws.specs.declared.misfit.Mismatch.TheVariants as mismatch
use Rattle.net_laws.specs.declared.net.End.{End}
use Rattle.net_laws.specs.declared.net.Wire.{Wire}

-- ---- two routers of one AS

-- The router has a service of this number, and the other one hasn't that service.
pub record IsUnshared (x y : Router) (number : ℕ) : Type 0 where
  pub its : Service
  pub there : Contains x.network.services its
  pub number_is : its.number ≡ number
  pub missing : ¬ Contains y.network.services its

-- Another router has a link of this number, of which this is so.
pub record OfLink (r q : ℕ) (y : Router) (id : ℕ) (P : Link → Type 0) : Type 0 where
  pub others : r ≢ q
  pub its : Link
  pub there : Contains y.network.links its
  pub number_is : its.id ≡ id
  pub so : P its

-- The router lists an interface of this number, and this is so of its entry.
pub record OfEntry (x : Router) (id : ℕ) (P : Sibling → Type 0) : Type 0 where
  pub entry : Sibling
  pub listed : sibling x.network id ≡ Some entry
  pub so : P entry

-- This is different between the routers at two places.
abbrev pub IsDifference : ℕ → ℕ → Router → Router → Difference → Type 0
IsDifference r q x y difference.Key = x.network.key ≢ y.network.key
IsDifference r q x y difference.HostPort = x.network.host_port ≢ y.network.host_port
IsDifference r q x y difference.DispatchedPorts = x.network.dispatched_ports ≢ y.network.dispatched_ports
IsDifference r q x y (difference.Service number) = IsUnshared x y number
IsDifference r q x y difference.Internal = (r ≢ q) × (x.internal ≡ y.internal)
IsDifference r q x y (difference.SameInterface id) = OfLink r q y id (λ l. own_link x.network id ≢ None)
IsDifference r q x y (difference.Unlisted id) = OfLink r q y id (λ l. sibling x.network id ≡ None)
IsDifference r q x y (difference.Elsewhere id) = OfLink r q y id (λ l. OfEntry x id (λ s. s.at ≢ y.internal))
IsDifference r q x y (difference.OtherKind id) = OfLink r q y id (λ l. OfEntry x id (λ s. s.kind ≢ l.kind))

-- ---- a wire

-- Both ends are links, of which this is so.
pub record OfEnds (routers : List Router) (w : Wire) (P : Link → Link → Type 0) : Type 0 where
  pub out : Link
  pub into : Link
  pub out_is : link_at routers w.one ≡ Some out
  pub into_is : link_at routers w.other ≡ Some into
  pub so : P out into

-- The link doesn't name the AS of the router at this end.
pub record NamesOther (routers : List Router) (l : Link) (e : End) : Type 0 where
  pub router : Router
  pub router_is : slice_get routers e.router ≡ Some router
  pub other : ¬ IsNamed l.neighbor router

abbrev pub IsMismatch : List Router → Wire → Mismatch → Type 0
IsMismatch routers w mismatch.NoLink = (link_at routers w.one ≡ None) ⊎ (link_at routers w.other ≡ None)
IsMismatch routers w mismatch.SameEnd = w.one ≡ w.other
IsMismatch routers w mismatch.Remote = OfEnds routers w (λ out into. out.remote ≢ into.local)
IsMismatch routers w mismatch.RemoteBack = OfEnds routers w (λ out into. into.remote ≢ out.local)
IsMismatch routers w mismatch.Kinds = OfEnds routers w (λ out into. into.kind ≢ opposite out.kind)
IsMismatch routers w mismatch.Neighbor = OfEnds routers w (λ out into. NamesOther routers out w.other)
IsMismatch routers w mismatch.NeighborBack = OfEnds routers w (λ out into. NamesOther routers into w.one)

-- ---- the first

-- the places i and j come before r and q
abbrev pub Before : ℕ → ℕ → ℕ → ℕ → Type 0
Before i j r q = (i < r) ⊎ ((i ≡ r) × (j < q))

-- Routers at places of which this is so agree, if they are of one AS.
abbrev pub AgreeWhere : Net → (ℕ → ℕ → Type 0) → Type 0
AgreeWhere net P =
    (r q : ℕ) (x y : Router) → P r q → router_at net r ≡ Some x → router_at net q ≡ Some y → AreOfOneAS x y → AgreeWithin r q x y

-- Two routers of one AS don't fit, and those before them do.
pub record FirstRouters (net : Net) (r q : ℕ) (what : Difference) : Type 0 where
  pub one : Router
  pub other : Router
  pub one_is : router_at net r ≡ Some one
  pub other_is : router_at net q ≡ Some other
  pub of_one_as : AreOfOneAS one other
  pub so : IsDifference r q one other what
  pub before : AgreeWhere net (λ i j. Before i j r q)

-- A wire doesn't fit, and those before it do, and all routers.
pub record FirstWire (net : Net) (w : Wire) (what : Mismatch) : Type 0 where
  pub place : ℕ
  pub there : slice_get net.wires place ≡ Some w
  pub so : IsMismatch net.routers w what
  pub before : (k : ℕ) (v : Wire) → k < place → slice_get net.wires k ≡ Some v → IsWire net v
  pub routers_agree : AgreeWhere net (λ i j. Unit {0})

-- Two wires have an end in common, and no two before them have; and all routers and wires fit.
pub record FirstShared (net : Net) (v w : Wire) : Type 0 where
  pub one : ℕ
  pub other : ℕ
  pub one_is : slice_get net.wires one ≡ Some v
  pub other_is : slice_get net.wires other ≡ Some w
  pub two : one ≢ other
  pub so : ¬ AreApart v w
  pub before : (i j : ℕ) (t u : Wire) → Before i j one other → slice_get net.wires i ≡ Some t → slice_get net.wires j ≡ Some u → i ≢ j → AreApart t u
  pub all_wires : (u : Wire) → Contains net.wires u → IsWire net u
  pub routers_agree : AgreeWhere net (λ i j. Unit {0})

abbrev pub IsFirst : Net → Misfit → Type 0
IsFirst net (misfit.Routers r q what) = FirstRouters net r q what
IsFirst net (misfit.Wire w what) = FirstWire net w what
IsFirst net (misfit.Shared v w) = FirstShared net v w
