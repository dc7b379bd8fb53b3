-- Where a packet stands on a route. This one predicate decides what a router does with the packet, is kept from stop to stop,
-- and is the same for a packet on its way and for the answer to it on the way back.
use Rattle.std.specs.Prelude.{◌≡◌, ◌≢◌, ◌⊎◌, ◌≤◌, ◌<◌, ℕ, Bool, true, false, List, length, slice_index_or, Some, if◌then◌else◌}
use Rattle.scion_packet.specs.Header.{HeaderFields, HostAddress}
use Rattle.scion_packet.specs.Packet.{IsPacket, Packet, spelling}
use Rattle.scion_packet.specs.Path.{HopField, InfoField, Place, Segment, place_at}
use Rattle.scion_packet.specs.Places.{info_there, no_segment}
use Rattle.process_packet.specs.declared.neighbours.Link.{Link}
use Rattle.process_packet.specs.declared.underlay.Underlay.{Underlay}
use Rattle.process_packet.specs.Network.{is_local, own_link}
use Rattle.process_packet.specs.Request.{is_request}
use Rattle.process_packet.specs.Underlay.{longest_datagram}
use Rattle.process_packet.specs.PacketState.{entry_place, is_first_of_path}
use Rattle.net_laws.specs.Net.{Net, Router, router_at}
use Rattle.net_laws.specs.Domain.{Domain, IsOf}
use Rattle.net_laws.specs.Route.{IsBefore, IsOn, Route, after, end_of, hop_of, id_before, info_of, last_in, way_in}

-- ---- the identifiers

-- the identifier of the segment at hand: as it is on the wire, or within the AS
abbrev pub id_now : Route → Bool → Place → ℕ
id_now w outside at = if outside then id_before w at else w.beta at

abbrev pub with_id_of : ℕ → InfoField → InfoField
with_id_of id i = record i { segment_id = id }

abbrev pub hops_at : List Segment → ℕ → List HopField
hops_at ss k = (slice_index_or ss k no_segment).hops

-- The segments are the route's, with the identifiers that they have once a packet came so far: those of the segments that it has left
-- as at their last hop, those still to come as at their first one, and its own as it is on the wire, or within the AS.
pub record IdsStand (w : Route) (outside : Bool) (at : Place) (ss : List Segment) : Type 0 where
  pub count : length ss ≡ length w.segments
  pub hops : (k : ℕ) → hops_at ss k ≡ hops_at w.segments k
  pub earlier : (p : Place) → p.segment < at.segment → info_there ss p ≡ with_id_of (w.beta (last_in w p.segment)) (info_of w p)
  pub here : (p : Place) → p.segment ≡ at.segment → info_there ss p ≡ with_id_of (id_now w outside at) (info_of w p)
  pub ahead : (p : Place) → at.segment < p.segment → p.segment < length w.segments
      → info_there ss p ≡ with_id_of (w.beta (place_at p.segment 0)) (info_of w p)

-- ---- the addresses

-- the host is one of this AS
pub record IsHostOf (a : HostAddress) (d : Domain) : Type 0 where
  pub isd : a.isd ≡ d.isd
  pub autonomous_system : a.autonomous_system ≡ d.autonomous_system

-- The packet is from the AS of this place, where its segment goes on, and for the AS in which the route ends.
pub record IsAddressed (w : Route) (from : Place) (h : HeaderFields) : Type 0 where
  pub goes_on : IsOn w (after from)
  pub source : IsHostOf h.source (w.home from)
  pub destination : IsHostOf h.destination (w.home (end_of w))

-- what the packet is, wherever it stands
pub record IsOnItsWay (net : Net) (w : Route) (from : Place) (p : Packet) : Type 0 where
  pub lawful : IsPacket p
  pub short : length (spelling p) ≤ longest_datagram
  pub whole : p.header.payload_length ≡ length p.payload
  pub addressed : IsAddressed w from p.header

-- no hop field's flag asks for an answer, or the packet is no request
abbrev pub IsUnasked : Route → Packet → Type 0
IsUnasked w p =
    (at : Place) → IsOn w at → ((hop_of w at).ingress_alert ≡ true) ⊎ ((hop_of w at).egress_alert ≡ true) → is_request p.header.next_header p.payload ≡ false

-- ---- the stops

-- a packet at a router: which one, by which link it came, and from where
pub record PacketAt : Type 0 where
  pub router : ℕ
  pub link : ℕ
  pub source : Underlay
  pub packet : Packet

abbrev pub place_of : PacketAt → Place
place_of a = a.packet.path.place

-- From outside it comes to a hop by that hop's wire, to the router at its end, never to the first hop of a segment.
pub record StandsOutside (net : Net) (w : Route) (from : Place) (a : PacketAt) : Type 0 where
  pub on : IsOn w (place_of a)
  pub entered : 1 ≤ (place_of a).position
  pub router : a.router ≡ w.entered_by (place_of a)
  pub link : a.link ≡ way_in w (place_of a)
  pub external : 1 ≤ a.link
  pub here : Router
  pub here_is : router_at net a.router ≡ Some here
  pub home : IsOf here (w.home (place_of a))
  pub own : Link
  pub own_is : own_link here.network a.link ≡ Some own
  pub kind : own.kind ≡ w.kind_in (place_of a)
  pub source : a.source ≡ own.remote
  pub ids : IdsStand w true (place_of a) a.packet.path.segments
  pub begun : IsBefore from (place_of a)

-- from the router that took it in: the one with the interface by which it entered the AS
pub record IsFromEntry (net : Net) (w : Route) (at : Place) (a : PacketAt) : Type 0 where
  pub taker : Router
  pub taker_is : router_at net (w.entered_by (entry_place w.segments at)) ≡ Some taker
  pub home : IsOf taker (w.home at)
  pub other : a.router ≢ w.entered_by (entry_place w.segments at)
  pub own : Link
  pub own_is : own_link taker.network (way_in w (entry_place w.segments at)) ≡ Some own
  pub source : a.source ≡ taker.internal

-- From inside it comes to the router that has the interface by which it leaves its hop: from its host where the route begins,
-- else from the router that took it in.
pub record StandsInside (net : Net) (w : Route) (from : Place) (a : PacketAt) : Type 0 where
  pub more : IsOn w (after (place_of a))
  pub router : a.router ≡ w.left_by (place_of a)
  pub link : a.link ≡ 0
  pub here : Router
  pub here_is : router_at net a.router ≡ Some here
  pub home : IsOf here (w.home (place_of a))
  pub sender : ((is_first_of_path (place_of a) ≡ true) × (is_local here.network a.packet.header.source ≡ true))
      ⊎ ((is_first_of_path (place_of a) ≡ false) × IsFromEntry net w (place_of a) a)
  pub ids : IdsStand w false (place_of a) a.packet.path.segments
  pub begun : (from ≡ place_of a) ⊎ IsBefore from (place_of a)

-- The packet stands on the route.
pub record Stands (net : Net) (w : Route) (from : Place) (a : PacketAt) : Type 0 where
  pub way : IsOnItsWay net w from a.packet
  pub there : StandsOutside net w from a ⊎ StandsInside net w from a
