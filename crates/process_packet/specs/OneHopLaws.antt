-- What the decision says of packets on a path of one hop as a whole. The conditions are said of the packet's fields.
use Rattle.std.specs.Bool.{Decides}
use Rattle.std.specs.Prelude.{◌≡◌, ◌≢◌, ◌≤◌, ◌<◌, ◌+◌, ℕ, false, List, length, Contains, Option, Some, None, slice_index}
use Rattle.field_rows.specs.Place.{IsBytes}
use Rattle.hop_check.specs.Mac.{chain}
use Rattle.scion_header.specs.declared.domain.Domain.{Domain}
use Rattle.scion_packet.specs.Header.{HostAddress, front_end, one_hop_path}
use Rattle.scion_packet.specs.OneHop.{OneHopPacket, one_hop_fault, one_hop_packet_of}
use Rattle.scion_packet.specs.Path.{HopField, hop_text}
use Rattle.process_packet.specs.declared.decision.Decision.TheVariants as decision
use Rattle.process_packet.specs.declared.neighbours.Link.{Link}
use Rattle.process_packet.specs.declared.underlay.Underlay.{Underlay}
use Rattle.process_packet.specs.Conditions.{CarriesMac, IsFarEnd, IsHere, IsInTime}
use Rattle.process_packet.specs.Decide.{decide, moved, scion_decide, scion_moved}
use Rattle.process_packet.specs.Hosts.{IsDeliveredAt}
use Rattle.process_packet.specs.Network.{Network, own_link, takes_one_hop}
use Rattle.process_packet.specs.OneHopRows.{Sent}
use Rattle.process_packet.specs.OneHopState.{OneHopState, first, info, one_hop_arrives}
use Rattle.process_packet.specs.OneHopTable.{one_hop_decision_of, one_hop_moved_by, one_hop_verdict}

-- ---- what a packet must show

-- The link is one of this router, and the configuration says that its other end is this AS.
pub record LeadsTo (n : Network) (link : ℕ) (there : HostAddress) : Type 0 where
  pub own : Link
  pub listed : own_link n link ≡ Some own
  pub end : Domain
  pub named : own.neighbor ≡ Some end
  pub isd : there.isd ≡ end.isd
  pub autonomous_system : there.autonomous_system ≡ end.autonomous_system

-- It has no fault, is no longer than any link carries and as long as it tells, and its hop field is within its time, which began
-- at most 300 seconds after the moment.
pub record IsUsable (s : OneHopState) : Type 0 where
  pub short : length s.bytes ≤ 9216
  pub sound : one_hop_fault s.bytes ≡ None
  pub whole : s.packet.header.payload_length ≡ length s.packet.payload
  pub in_time : IsInTime (info s) (first s) s.moment
  pub begun : (info s).timestamp ≤ s.moment + 300

-- It may leave by this link: it came from inside, is from this AS for the one at the other end of the link, and its hop field
-- leads from nowhere to this link and carries the MAC of this AS's key for its own identifier and timestamp.
pub record MayLeaveBy (s : OneHopState) (link : ℕ) : Type 0 where
  pub usable : IsUsable s
  pub inside : s.link ≡ 0
  pub source : IsHere s.network s.packet.header.source
  pub destination : LeadsTo s.network link s.packet.header.destination
  pub begins : (first s).construction_ingress ≡ 0
  pub leads : (first s).construction_egress ≡ link
  pub authentic : CarriesMac s.network.key (info s).segment_id (info s) (first s)

-- It may be delivered to this address: it came over a link from the router at the other end, is from the AS there for this one,
-- is no message of BFD (203), and its host or service is reached there.
pub record MayEnterTo (s : OneHopState) (to : Underlay) : Type 0 where
  pub usable : IsUsable s
  pub outside : s.link ≢ 0
  pub sender : IsFarEnd s.network s.link s.source
  pub source : LeadsTo s.network s.link s.packet.header.source
  pub destination : IsHere s.network s.packet.header.destination
  pub other : s.packet.header.next_header ≢ 203
  pub reached : IsDeliveredAt s.network s.packet.header s.packet.payload to

-- ---- what changes

-- the same packet with another path
pub record HasPathOf (p q : OneHopPacket) : Type 0 where
  pub header : q.header ≡ p.header
  pub payload : q.payload ≡ p.payload

-- As it leaves its AS: the identifier is chained by the first hop, and nothing else changes.
pub record IsChained (s : OneHopState) (q : OneHopPacket) : Type 0 where
  pub same : HasPathOf s.packet q
  pub info_is : q.path.info ≡ record (info s) { segment_id = chain (info s).segment_id (first s).mac }
  pub first_is : q.path.first ≡ first s
  pub second_is : q.path.second ≡ s.packet.path.second

-- As it is delivered: the second hop field comes from the link by which the packet came, ends the segment, is good for as long as
-- the first, has no flag, and carries the MAC of this AS's key for the identifier with which the packet came; nothing else changes.
pub record IsCompleted (s : OneHopState) (q : OneHopPacket) : Type 0 where
  pub same : HasPathOf s.packet q
  pub info_is : q.path.info ≡ info s
  pub first_is : q.path.first ≡ first s
  pub hop : HopField
  pub second_is : q.path.second ≡ hop_text hop
  pub plain : (hop.reserved_flags ≡ 0) × ((hop.ingress_alert ≡ false) × (hop.egress_alert ≡ false))
  pub expiry : hop.expiry ≡ (first s).expiry
  pub ingress : hop.construction_ingress ≡ s.link
  pub egress : hop.construction_egress ≡ 0
  pub authentic : CarriesMac s.network.key (info s).segment_id (info s) hop

-- The bytes that leave are those of this packet, without a fault.
pub record LeavesAs (left : List ℕ) (such : OneHopPacket → Type 0) : Type 0 where
  pub packet : such (one_hop_packet_of left)
  pub sound : one_hop_fault left ≡ None

-- It goes to its own host or service.
pub record EntersTo (s : OneHopState) (to : Option Underlay) : Type 0 where
  pub at : Underlay
  pub address : to ≡ Some at
  pub entered : MayEnterTo s at

-- ---- the laws, for every configuration, link, source, moment and datagram

-- its path type is that of a path of one hop
abbrev pub IsOneHop : List ℕ → Type 0
IsOneHop bytes = slice_index bytes 8 ≡ one_hop_path

-- From inside what may leave by a link is sent there, chained, and nothing else is sent.
pub record OneHopsLeave : Type 0 where
  pub only : (n : Network) (link : ℕ) (source : Underlay) (moment : ℕ) (bytes : List ℕ) (out : ℕ) (to : Option Underlay) → IsOneHop bytes → link ≡ 0
      → decide n link source moment bytes ≡ decision.Send out to → (to ≡ None) × MayLeaveBy (one_hop_arrives n link source moment bytes) out
  pub every : (n : Network) (link : ℕ) (source : Underlay) (moment : ℕ) (bytes : List ℕ) (out : ℕ)
      → MayLeaveBy (one_hop_arrives n link source moment bytes) out → decide n link source moment bytes ≡ decision.Send out None
  pub chained : (n : Network) (link : ℕ) (source : Underlay) (moment : ℕ) (bytes : List ℕ) (out : ℕ) (to : Option Underlay) → IsBytes bytes → IsOneHop bytes → link ≡ 0
      → decide n link source moment bytes ≡ decision.Send out to → LeavesAs (moved n link source moment bytes) (IsChained (one_hop_arrives n link source moment bytes))
  pub are : (n : Network) (link : ℕ) (source : Underlay) (moment : ℕ) (bytes : List ℕ) (out : ℕ) (to : Option Underlay) → IsBytes bytes → IsOneHop bytes → link ≡ 0
      → decide n link source moment bytes ≡ decision.Send out to → IsBytes (moved n link source moment bytes)

-- From outside what may be delivered is, completed, and nothing else is sent.
pub record OneHopsEnter : Type 0 where
  pub only : (n : Network) (link : ℕ) (source : Underlay) (moment : ℕ) (bytes : List ℕ) (out : ℕ) (to : Option Underlay) → IsOneHop bytes → link ≢ 0
      → decide n link source moment bytes ≡ decision.Send out to → (out ≡ 0) × EntersTo (one_hop_arrives n link source moment bytes) to
  pub every : (n : Network) (link : ℕ) (source : Underlay) (moment : ℕ) (bytes : List ℕ) (to : Underlay)
      → MayEnterTo (one_hop_arrives n link source moment bytes) to → decide n link source moment bytes ≡ decision.Send 0 (Some to)
  pub completed : (n : Network) (link : ℕ) (source : Underlay) (moment : ℕ) (bytes : List ℕ) (out : ℕ) (to : Option Underlay) → IsBytes bytes → IsOneHop bytes → link ≢ 0
      → decide n link source moment bytes ≡ decision.Send out to → LeavesAs (moved n link source moment bytes) (IsCompleted (one_hop_arrives n link source moment bytes))
  pub are : (n : Network) (link : ℕ) (source : Underlay) (moment : ℕ) (bytes : List ℕ) (out : ℕ) (to : Option Underlay) → IsBytes n.key → IsBytes bytes → IsOneHop bytes → link ≢ 0
      → decide n link source moment bytes ≡ decision.Send out to → IsBytes (moved n link source moment bytes)

-- What the table sends is the packet that came, with another path.
abbrev pub OneHopsKeepTheRest : Type 0
OneHopsKeepTheRest =
    (n : Network) (link : ℕ) (source : Underlay) (moment : ℕ) (bytes : List ℕ) (out : ℕ) (to : Option Underlay) (p : OneHopPacket)
    → one_hop_verdict n link source moment bytes ≡ Sent out to p → HasPathOf (one_hop_packet_of bytes) p

-- where the second hop field stands in its path, behind the info field and the first hop field
abbrev pub second_hop_place : ℕ
second_hop_place = 20

-- The bytes that leave are as many as came, and differ only where the segment's identifier stands, two bytes, for a packet from
-- inside, and where the second hop field stands, twelve, for one from outside.
pub record DiffersInPlace (link : ℕ) (came left : List ℕ) : Type 0 where
  pub count : length left ≡ length came
  pub from_inside : link ≡ 0 → (i : ℕ) → i ≢ front_end came + 2 → i ≢ front_end came + 3 → slice_index left i ≡ slice_index came i
  pub before : link ≢ 0 → (i : ℕ) → i < front_end came + 20 → slice_index left i ≡ slice_index came i
  pub after : link ≢ 0 → (i : ℕ) → front_end came + 32 ≤ i → slice_index left i ≡ slice_index came i

abbrev pub OneHopsDifferInPlace : Type 0
OneHopsDifferInPlace =
    (n : Network) (link : ℕ) (source : Underlay) (moment : ℕ) (bytes : List ℕ) (out : ℕ) (to : Option Underlay) → IsBytes bytes → IsOneHop bytes
    → decide n link source moment bytes ≡ decision.Send out to → DiffersInPlace link bytes (moved n link source moment bytes)

pub record IsDecidedAsScion (n : Network) (link : ℕ) (source : Underlay) (moment : ℕ) (bytes : List ℕ) : Type 0 where
  pub decision : decide n link source moment bytes ≡ scion_decide n link source moment bytes
  pub bytes_are : moved n link source moment bytes ≡ scion_moved n link source moment bytes

pub record IsDecidedAsOneHop (n : Network) (link : ℕ) (source : Underlay) (moment : ℕ) (bytes : List ℕ) : Type 0 where
  pub decision : decide n link source moment bytes ≡ one_hop_decision_of (one_hop_verdict n link source moment bytes)
  pub bytes_are : moved n link source moment bytes ≡ one_hop_moved_by (one_hop_verdict n link source moment bytes) bytes

-- The links that take one-hop paths: each whose configuration names the AS at its other end, and the internal network where there
-- is such a link.
pub data TakesOneHops (n : Network) : ℕ → Type 0 where
  by_link : {link : ℕ} (own : Link) (there : Domain) → link ≢ 0 → own_link n link ≡ Some own → own.neighbor ≡ Some there → TakesOneHops n link
  from_inside : {link : ℕ} (own : Link) (there : Domain) → link ≡ 0 → Contains n.links own → own.neighbor ≡ Some there → TakesOneHops n link

-- By which table a datagram is decided: by that of SCION paths unless its path type is that of a path of one hop and its link takes
-- such paths; then by theirs.
pub record DecidedByKind : Type 0 where
  pub scion : (n : Network) (link : ℕ) (source : Underlay) (moment : ℕ) (bytes : List ℕ) → slice_index bytes 8 ≢ one_hop_path → IsDecidedAsScion n link source moment bytes
  pub not_carried : (n : Network) (link : ℕ) (source : Underlay) (moment : ℕ) (bytes : List ℕ) → ((l : Link) → Contains n.links l → l.neighbor ≡ None) → IsDecidedAsScion n link source moment bytes
  pub not_taken : (n : Network) (link : ℕ) (source : Underlay) (moment : ℕ) (bytes : List ℕ) → (TakesOneHops n link → ⊥) → IsDecidedAsScion n link source moment bytes
  pub one_hop : (n : Network) (link : ℕ) (source : Underlay) (moment : ℕ) (bytes : List ℕ) → IsOneHop bytes → TakesOneHops n link → IsDecidedAsOneHop n link source moment bytes
  -- what the decision asks of the link is just this
  pub takes : (n : Network) (link : ℕ) → Decides (takes_one_hop n link) (TakesOneHops n link)
