-- What the decision table says as a whole: packets keep to authorised paths.
use Rattle.std.specs.Prelude.{◌≡◌, ◌≢◌, ◌⊎◌, ◌<◌, ◌+◌, ◌&&◌, ℕ, Bool, true, false, List, Option, Some, None, is_some, option_map, if◌then◌else◌, ◌≤◌, length}
use Rattle.scion_packet.specs.Packet.{Packet, first_fault, packet_of}
use Rattle.scion_packet.specs.Path.{Place, Segment, hops_in}
use Rattle.scion_packet.specs.Places as places
use Rattle.scion_packet.specs.Places.{next}
use Rattle.process_packet.specs.declared.underlay.Underlay.{Underlay}
use Rattle.process_packet.specs.Decide.{verdict}
use Rattle.process_packet.specs.Neighbours.{sibling_at}
use Rattle.process_packet.specs.Network.{Network, is_local, own_link, sibling}
use Rattle.process_packet.specs.Rows.{Sent}
use Rattle.process_packet.specs.Conditions.{CarriesMac, ComesFromItsRouter, ComesInBy, HasItsDestination, HasItsPair, HasItsSource, IsInTime}
use Rattle.process_packet.specs.PacketView.{with_id}
use Rattle.process_packet.specs.PacketState.{PacketState, arrives, changed_over, egress, hop, info, is_authentic, is_expired, is_external, is_followed, is_last_of_path, is_last_of_segment, next_place, turned_back}

-- ---- what a packet had to show where it arrived

-- All that a packet must show before it is sent. It has no fault and is no longer than any link carries; the hop field at its
-- cursor is within its time, names the link by which it came from outside, and carries the MAC that the AS's key gives for the
-- segment identifier of its place; its payload is as long as it tells. It comes from the router at the other end of the link, or
-- within the AS from the router that has the interface of entry. From outside it claims no source in this AS; where its path
-- begins inside, its source is in this AS. What comes from outside is for this AS exactly at its path's last hop; what comes
-- from inside is for another one.
pub record IsAuthorised (s : PacketState) : Type 0 where
  pub short : length s.bytes ≤ 9216
  pub sound : first_fault s.bytes ≡ None
  pub in_time : IsInTime (info s) (hop s) s.moment
  pub by_its_link : s.link ≢ 0 → ComesInBy (info s) (hop s) s.link
  pub whole : s.header.payload_length ≡ length s.payload
  pub sender : ComesFromItsRouter s
  pub source : HasItsSource s
  pub destination : HasItsDestination s
  pub authentic : CarriesMac s.network.key (info (turned_back s)).segment_id (info (turned_back s)) (hop (turned_back s))

-- ---- how it left

-- It is for this AS: it came from another one, and its path ends here; it is delivered inside.
pub record IsDelivered (s : PacketState) (out : ℕ) : Type 0 where
  pub came_in : is_external s ≡ true
  pub is_for_us : is_local s.network s.header.destination ≡ true
  pub at_its_end : is_last_of_path s ≡ true
  pub inside : out ≡ 0

-- It left the AS's router by the egress interface of its hop field: by this router's own link, or to the router that has
-- the interface. The pair of links is lawful.
pub record LeavesByItsEgress (s : PacketState) (out : ℕ) (to : Option Underlay) : Type 0 where
  pub for_others : is_local s.network s.header.destination ≡ false
  pub pair : HasItsPair s
  pub own : is_some (own_link s.network (egress s)) ≡ true → (out ≡ egress s) × (to ≡ None)
  pub other : is_some (own_link s.network (egress s)) ≡ false → (out ≡ 0) × (to ≡ option_map sibling_at (sibling s.network (egress s)))

-- a segment ends here, and another one follows
abbrev pub changes : PacketState → Bool
changes s = is_last_of_segment s && is_followed s

-- on its segment
pub record StaysOn (s : PacketState) (out : ℕ) (to : Option Underlay) : Type 0 where
  pub stays : changes s ≡ false
  pub leaves : LeavesByItsEgress s out to

-- or on the next one, whose first hop field was within its time and carried its MAC too
pub record ChangesOver (s : PacketState) (out : ℕ) (to : Option Underlay) : Type 0 where
  pub changes : changes s ≡ true
  pub unexpired : is_expired (changed_over s) ≡ false
  pub authentic : is_authentic (changed_over s) ≡ true
  pub leaves : LeavesByItsEgress (changed_over s) out to

abbrev pub LeftLawfully : PacketState → ℕ → Option Underlay → Type 0
LeftLawfully s out to = IsDelivered s out ⊎ (StaysOn s out to ⊎ ChangesOver s out to)

-- ---- the laws, for every configuration, link, source, moment and datagram

abbrev pub OnlyAuthorised : Type 0
OnlyAuthorised =
    (n : Network) (link : ℕ) (source : Underlay) (moment : ℕ) (bytes : List ℕ) (out : ℕ) (to : Option Underlay) (p : Packet)
    → verdict n link source moment bytes ≡ Sent out to p → IsAuthorised (arrives n link source moment bytes)

abbrev pub OnlyLawfulWays : Type 0
OnlyLawfulWays =
    (n : Network) (link : ℕ) (source : Underlay) (moment : ℕ) (bytes : List ℕ) (out : ℕ) (to : Option Underlay) (p : Packet)
    → verdict n link source moment bytes ≡ Sent out to p → LeftLawfully (turned_back (arrives n link source moment bytes)) out to

-- The packet that leaves is the one that arrived, but for its place and the identifiers of at most two segments: the one by
-- which it came, and that one or the next one.
pub record IsMoved (p q : Packet) : Type 0 where
  pub header : q.header ≡ p.header
  pub payload : q.payload ≡ p.payload
  pub reserved : q.path.reserved ≡ p.path.reserved
  pub first : Option ℕ
  pub second : Option ℕ
  pub at : ℕ
  pub near : (at ≡ p.path.place.segment) ⊎ (at ≡ p.path.place.segment + 1)
  pub segments : q.path.segments ≡ with_id second at (with_id first p.path.place.segment p.path.segments)

abbrev pub NothingElseChanges : Type 0
NothingElseChanges =
    (n : Network) (link : ℕ) (source : Underlay) (moment : ℕ) (bytes : List ℕ) (out : ℕ) (to : Option Underlay) (p : Packet)
    → verdict n link source moment bytes ≡ Sent out to p → IsMoved (packet_of bytes) p

-- The place at which a packet leaves by a link of this router is the path's next one, which is there just where the path
-- doesn't end.
abbrev pub NextPlaceIsNext : Type 0
NextPlaceIsNext =
    (ss : List Segment) (at : Place) → at.position < hops_in ss at.segment → next ss at ≡ (if places.is_last_of_path ss at then None else Some (next_place ss at))
