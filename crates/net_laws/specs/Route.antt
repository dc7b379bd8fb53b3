-- A route: a path through a net, hop by hop in the order of travel, and whose hops they are. It is the same whoever travels on
-- it and from where; travelled back it is a route again.
use Rattle.std.specs.Prelude.{◌≡◌, ◌⊎◌, ◌≤◌, ◌<◌, ◌+◌, ◌-◌, ◌^◌, ℕ, true, false, List, length, map, reverse, Some, if◌then◌else◌}
use Rattle.hop_check.specs.Expiry.{is_expired}
use Rattle.hop_check.specs.Mac.{chain, mac6}
use Rattle.scion_packet.specs.Path.{HopField, InfoField, Place, Segment, count_hops, hops_in, place_at}
use Rattle.scion_packet.specs.Places.{hop_there, info_there, mirrored}
use Rattle.scion_packet.specs.Reversed.{reversed_segment}
use Rattle.segment_switch.specs.Pairs.{changes_over, goes_straight}
use Rattle.segment_switch.specs.declared.kind.LinkKind.{LinkKind}
use Rattle.process_packet.specs.declared.neighbours.Link.{Link}
use Rattle.process_packet.specs.Network.{own_link}
use Rattle.process_packet.specs.PacketState.{egress_of, ingress_of}
use Rattle.net_laws.specs.Net.{Joined, Net, Router, end_at, router_at}
use Rattle.net_laws.specs.Domain.{Domain, IsOf}

pub record Route : Type 0 where
  pub segments : List Segment  -- in the order of travel; their identifiers don't count
  pub beta : Place → ℕ  -- the identifier with which a hop's MAC was made
  pub home : Place → Domain  -- the hop's AS
  pub key : Place → List ℕ  -- and its key
  pub entered_by : Place → ℕ  -- the router with the interface by which a packet comes to the hop
  pub left_by : Place → ℕ  -- and the one with that by which it leaves
  pub kind_in : Place → LinkKind  -- what the AS at the other end of the one interface is
  pub kind_out : Place → LinkKind  -- and at that of the other

-- ---- a hop of a route

abbrev pub info_of : Route → Place → InfoField
info_of w at = info_there w.segments at

abbrev pub hop_of : Route → Place → HopField
hop_of w at = hop_there w.segments at

abbrev pub way_in : Route → Place → ℕ
way_in w at = ingress_of (info_of w at) (hop_of w at)

abbrev pub way_out : Route → Place → ℕ
way_out w at = egress_of (info_of w at) (hop_of w at)

-- the place is one of the route
pub record IsOn (w : Route) (at : Place) : Type 0 where
  pub segment : at.segment < length w.segments
  pub position : at.position < hops_in w.segments at.segment

-- the next hop of the same segment
abbrev pub after : Place → Place
after at = place_at at.segment (at.position + 1)

-- the last hop of a segment, and of the route
abbrev pub last_in : Route → ℕ → Place
last_in w k = place_at k (hops_in w.segments k - 1)

abbrev pub end_of : Route → Place
end_of w = last_in w (length w.segments - 1)

-- The segment's identifier on the wire by which a packet comes to a hop, and on the one by which it leaves: along, it is
-- chained as the packet leaves, and against the direction of construction as it comes.
abbrev pub id_before : Route → Place → ℕ
id_before w at = if (info_of w at).along then w.beta at else chain (w.beta at) (hop_of w at).mac

abbrev pub id_after : Route → Place → ℕ
id_after w at = if (info_of w at).along then chain (w.beta at) (hop_of w at).mac else w.beta at

-- ---- a lawful route

-- The hop field is its AS's, for the identifier of its place, and within its time.
pub record IsHopOf (net : Net) (w : Route) (moment : ℕ) (at : Place) : Type 0 where
  pub mac : (hop_of w at).mac ≡ mac6 (w.key at) (w.beta at) (info_of w at) (hop_of w at)
  pub unexpired : is_expired (info_of w at) (hop_of w at) moment ≡ false
  pub key : (r : ℕ) (x : Router) → router_at net r ≡ Some x → IsOf x (w.home at) → x.network.key ≡ w.key at
  pub fits : w.beta at < 2 ^ 16
  pub fits_before : id_before w at < 2 ^ 16
  pub fits_after : id_after w at < 2 ^ 16

-- A wire leads from one hop to another, the next one of its segment, and the identifier that leaves the one comes to the other.
pub record Crosses (net : Net) (w : Route) (at to : Place) : Type 0 where
  pub near : Router
  pub far : Router
  pub near_there : router_at net (w.left_by at) ≡ Some near
  pub far_there : router_at net (w.entered_by to) ≡ Some far
  pub near_home : IsOf near (w.home at)
  pub far_home : IsOf far (w.home to)
  pub out : Link
  pub into : Link
  pub out_is : own_link near.network (way_out w at) ≡ Some out
  pub into_is : own_link far.network (way_in w to) ≡ Some into
  pub out_kind : out.kind ≡ w.kind_out at
  pub into_kind : into.kind ≡ w.kind_in to
  pub wire : Joined net (end_at (w.left_by at) (way_out w at)) (end_at (w.entered_by to) (way_in w to))
  pub remote : out.remote ≡ into.local
  pub remote_back : into.remote ≡ out.local
  pub out_there : 1 ≤ way_out w at
  pub into_there : 1 ≤ way_in w to
  pub ids : id_after w at ≡ id_before w to

-- A segment begins in the AS where the one before ended, over a pair of links that may be changed over.
pub record Joins (w : Route) (last first : Place) : Type 0 where
  pub home : w.home last ≡ w.home first
  pub key : w.key last ≡ w.key first
  pub pair : changes_over (w.kind_in last) (w.kind_out first) ≡ true

-- the first place is met before the second one
abbrev pub IsBefore : Place → Place → Type 0
IsBefore a b = (a.segment < b.segment) ⊎ ((a.segment ≡ b.segment) × (a.position < b.position))

-- the last hop of a segment and the first one of the next
pub record AreJoined (w : Route) (a b : Place) : Type 0 where
  pub last : a.position + 1 ≡ hops_in w.segments a.segment
  pub next : a.segment + 1 ≡ b.segment
  pub first : b.position ≡ 0

pub record IsRoute (net : Net) (w : Route) (moment : ℕ) : Type 0 where
  pub some : 1 ≤ length w.segments
  pub few : length w.segments ≤ 3
  pub hops : (k : ℕ) → k < length w.segments → 2 ≤ hops_in w.segments k
  pub all_hops : count_hops w.segments ≤ 64
  pub hop : (at : Place) → IsOn w at → IsHopOf net w moment at
  pub straight : (at : Place) → IsOn w (after at) → 1 ≤ at.position → goes_straight (w.kind_in at) (w.kind_out at) ≡ true
  pub crosses : (at : Place) → IsOn w (after at) → Crosses net w at (after at)
  -- no AS is met twice, but where one segment follows another
  pub apart : (a b : Place) → IsOn w a → IsOn w b → IsBefore a b → w.home a ≡ w.home b → AreJoined w a b
  pub joins : (k : ℕ) → k + 1 < length w.segments → Joins w (last_in w k) (place_at (k + 1) 0)

-- ---- travelled back

abbrev pub way_back : Route → List Segment
way_back w = map reversed_segment (reverse w.segments)

abbrev pub reversed_route : Route → Route
reversed_route w =
    let there = λ (at : Place). mirrored (way_back w) at in
    record {
      segments = way_back w;
      beta = λ at. w.beta (there at);
      home = λ at. w.home (there at);
      key = λ at. w.key (there at);
      entered_by = λ at. w.left_by (there at);
      left_by = λ at. w.entered_by (there at);
      kind_in = λ at. w.kind_out (there at);
      kind_out = λ at. w.kind_in (there at);
    }

-- what was travelled back is a route
abbrev pub RoutesTurn : Type 0
RoutesTurn = (net : Net) (w : Route) (moment : ℕ) → IsRoute net w moment → IsRoute net (reversed_route w) moment
