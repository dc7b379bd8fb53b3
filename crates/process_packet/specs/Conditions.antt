-- What a packet must show at a router, said of the fields of its header, its info field and its hop field. The laws cite these
-- conditions, and none of them is a row's own test: a wrong test is refused there.
use Rattle.std.specs.Prelude.{◌≡◌, ◌≢◌, ◌≤◌, ◌+◌, ◌-◌, ◌*◌, ℕ, Bool, true, false, List, length, take, Option, Some, None, slice_index}
use Rattle.bfd_control.specs.Reception.{is_taken}
use Rattle.cmac_core.specs.Cmac.{tag}
use Rattle.hop_check.specs.Mac.{mac_input}
use Rattle.scion_packet.specs.Extensions.{Layer, upper_layer}
use Rattle.scion_packet.specs.Header.{HostAddress}
use Rattle.scion_packet.specs.Path.{HopField, InfoField, Place, Segment, hops_in, place_at}
use Rattle.scion_packet.specs.Places.{hop_there, info_there}
use Rattle.segment_switch.specs.declared.kind.LinkKind.{LinkKind}
use Rattle.segment_switch.specs.declared.kind.LinkKind.TheVariants.{Core, Parent, Child}
use Rattle.process_packet.specs.declared.neighbours.Link.{Link}
use Rattle.process_packet.specs.declared.neighbours.Sibling.{Sibling}
use Rattle.process_packet.specs.declared.underlay.Underlay.{Underlay}
use Rattle.process_packet.specs.Network.{Network, interface_kind, own_link, sibling}
use Rattle.process_packet.specs.PacketState.{PacketState, arrival_kind, egress, hop, info}

-- ---- a hop field and the info field of its segment

-- It is within its time: 337.5 seconds for each unit of ExpTime and one more, from the segment's timestamp on. In half
-- seconds, and the last moment counts.
abbrev pub IsInTime : InfoField → HopField → ℕ → Type 0
IsInTime i h moment = 2 * moment ≤ 2 * i.timestamp + 675 * (1 + h.expiry)

-- All six bytes of its MAC are the first six of the CMAC that the key gives for this identifier.
abbrev pub CarriesMac : List ℕ → ℕ → InfoField → HopField → Type 0
CarriesMac key beta i h = h.mac ≡ take 6 (tag key (mac_input beta i h))

-- A packet comes in by ConsIngress in the direction of construction, and by ConsEgress against it.
pub data ComesInBy (i : InfoField) (h : HopField) : ℕ → Type 0 where
  along : i.along ≡ true → ComesInBy i h h.construction_ingress
  against : i.along ≡ false → ComesInBy i h h.construction_egress

-- It leaves by the other one.
pub data GoesOutBy (i : InfoField) (h : HopField) : ℕ → Type 0 where
  along : i.along ≡ true → GoesOutBy i h h.construction_egress
  against : i.along ≡ false → GoesOutBy i h h.construction_ingress

-- The router alert flag of the interface by which it comes in is set.
pub data AlertsEntry (i : InfoField) (h : HopField) : Type 0 where
  along : i.along ≡ true → h.ingress_alert ≡ true → AlertsEntry i h
  against : i.along ≡ false → h.egress_alert ≡ true → AlertsEntry i h

-- That of the interface by which it leaves is set.
pub data AlertsExit (i : InfoField) (h : HopField) : Type 0 where
  along : i.along ≡ true → h.egress_alert ≡ true → AlertsExit i h
  against : i.along ≡ false → h.ingress_alert ≡ true → AlertsExit i h

-- ---- the router that sent it

-- the router at the other end of the link, by its address and its port
pub record IsFarEnd (n : Network) (link : ℕ) (source : Underlay) : Type 0 where
  pub own : Link
  pub listed : own_link n link ≡ Some own
  pub address : source ≡ own.remote

-- the router of this AS that has the interface, by its IP address; its port isn't compared
pub record IsRouterWith (n : Network) (interface : ℕ) (source : Underlay) : Type 0 where
  pub entry : Sibling
  pub listed : sibling n interface ≡ Some entry
  pub ip : source.ip ≡ entry.at.ip

-- the last hop of the segment before
abbrev pub last_before : List Segment → Place → Place
last_before ss at = place_at (at.segment - 1) (hops_in ss (at.segment - 1) - 1)

-- By a link it comes from the router at the other end. From inside it comes from anywhere where its path begins; else from the
-- router that has the interface by which it entered the AS, which its hop field names, or at a later segment's first hop the
-- last one of the segment before.
pub record ComesFromItsRouter (s : PacketState) : Type 0 where
  pub by_link : s.link ≢ 0 → IsFarEnd s.network s.link s.source
  pub within : s.link ≡ 0 → s.path.place.position ≢ 0 → (id : ℕ) → ComesInBy (info s) (hop s) id → IsRouterWith s.network id s.source
  pub changing : s.link ≡ 0 → s.path.place.position ≡ 0 → s.path.place.segment ≢ 0 → (id : ℕ)
      → ComesInBy (info_there s.path.segments (last_before s.path.segments s.path.place)) (hop_there s.path.segments (last_before s.path.segments s.path.place)) id
      → IsRouterWith s.network id s.source

-- ---- its addresses

-- in this router's AS
abbrev pub IsHere : Network → HostAddress → Type 0
IsHere n a = (a.isd ≡ n.isd) × (a.autonomous_system ≡ n.autonomous_system)

-- From outside it has its source elsewhere; where its path begins inside, here.
pub record HasItsSource (s : PacketState) : Type 0 where
  pub elsewhere : s.link ≢ 0 → IsHere s.network s.header.source → ⊥
  pub here : s.link ≡ 0 → s.path.place.segment ≡ 0 → s.path.place.position ≡ 0 → IsHere s.network s.header.source

-- the last hop of its segment, which is the path's last one
pub record IsAtPathEnd (s : PacketState) : Type 0 where
  pub last : s.path.place.position + 1 ≡ hops_in s.path.segments s.path.place.segment
  pub final : length s.path.segments ≤ s.path.place.segment + 1

-- From outside it is for this AS if and only if its path ends here; from inside it never is.
pub record HasItsDestination (s : PacketState) : Type 0 where
  pub ends : s.link ≢ 0 → IsHere s.network s.header.destination → IsAtPathEnd s
  pub here : s.link ≢ 0 → IsAtPathEnd s → IsHere s.network s.header.destination
  pub elsewhere : s.link ≡ 0 → IsHere s.network s.header.destination → ⊥

-- ---- the links by which it comes and leaves

-- The lawful pairs, by what the ASes at the other ends are to this one. On one segment: from the core to the core, from a child
-- up to a parent, from a parent down to a child, and whatever comes from inside, where the AS's other router has seen the pair.
-- Where the segment changes: from the core down, from a child up to the core, and from one child to another.
pub data MayFollow : Bool → Option LinkKind → LinkKind → Type 0 where
  from_inside : {to : LinkKind} → MayFollow false None to
  core : MayFollow false (Some Core) Core
  up : MayFollow false (Some Child) Parent
  down : MayFollow false (Some Parent) Child
  core_to_down : MayFollow true (Some Core) Child
  up_to_core : MayFollow true (Some Child) Core
  up_to_down : MayFollow true (Some Child) Child

-- The interface by which it leaves is known in this AS, and may follow the link by which it came.
pub record HasItsPair (u : PacketState) : Type 0 where
  pub to : LinkKind
  pub known : interface_kind u.network (egress u) ≡ Some to
  pub lawful : MayFollow u.switched (arrival_kind u) to

-- ---- what it asks

-- After its extensions it carries a traceroute request: SCMP (protocol 202), type 130, code 0, with its 24 bytes there.
pub record IsTracerouteRequest (next_header : ℕ) (payload : List ℕ) : Type 0 where
  pub layer : Layer
  pub found : upper_layer next_header payload ≡ Some layer
  pub scmp : layer.protocol ≡ 202
  pub there : 24 ≤ length layer.bytes
  pub kind : slice_index layer.bytes 0 ≡ 130
  pub code : slice_index layer.bytes 1 ≡ 0

-- A control packet of BFD that came by a link, by its flow (FlowID) and its bytes, asks for an answer: the link is one of this
-- router whose configuration has them answered; it is no answer itself, which its flow would say (bfda0); and it passes the tests
-- on reception, where the number of the link is this end's discriminator (RFC 5880, 6.8.6).
pub record AsksByBfd (n : Network) (link flow : ℕ) (payload : List ℕ) : Type 0 where
  pub own : Link
  pub listed : own_link n link ≡ Some own
  pub answers : own.bfd ≡ true
  pub first : flow ≢ 0xbfda0
  pub taken : is_taken link payload ≡ true
