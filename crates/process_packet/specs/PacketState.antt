-- A packet at a router: how it came, what it is, and how it stands there. The rows of the decision read it by these words.
use Rattle.std.specs.Prelude.{ℕ, Bool, true, false, not, ◌&&◌, ◌+◌, ◌-◌, ◌*◌, ◌==◌, List, length, option_map, Option, None, if◌then◌else◌}
use Rattle.hop_check.specs.Expiry as expiry
use Rattle.hop_check.specs.Mac as hop_mac
use Rattle.path_fields.specs.InPlace.{with_segment_id}
use Rattle.scion_packet.specs.Header.{HeaderFields, front_len}
use Rattle.scion_packet.specs.Packet.{Packet, packet_of}
use Rattle.scion_packet.specs.Path.{HopField, InfoField, PathFields, Place, Segment, hop_number, hops_in, place_at}
use Rattle.scion_packet.specs.Places as places
use Rattle.scion_packet.specs.Places.{hop_there, info_there}
use Rattle.segment_switch.specs.declared.kind.LinkKind.{LinkKind}
use Rattle.process_packet.specs.declared.underlay.Underlay.{Underlay}
use Rattle.process_packet.specs.Neighbours.{link_kind}
use Rattle.process_packet.specs.Network.{Network, own_link}

-- Only the packet's place and segment identifiers, and whether it changed its segment, change from row to row.
pub record PacketState : Type 0 where
  pub network : Network
  pub link : ℕ  -- it came by; 0 is the internal network
  pub source : Underlay
  pub moment : ℕ  -- in seconds of Unix time
  pub bytes : List ℕ
  pub header : HeaderFields
  pub path : PathFields
  pub payload : List ℕ
  pub switched : Bool

abbrev pub arrives : Network → ℕ → Underlay → ℕ → List ℕ → PacketState
arrives n link source moment bytes = record {
  network = n;
  link = link;
  source = source;
  moment = moment;
  bytes = bytes;
  header = (packet_of bytes).header;
  path = (packet_of bytes).path;
  payload = (packet_of bytes).payload;
  switched = false;
}

-- the packet as it stands
abbrev pub packet : PacketState → Packet
packet s = record { header = s.header; path = s.path; payload = s.payload }

abbrev pub is_external : PacketState → Bool
is_external s = not (s.link == 0)

-- what the AS at the other end of the link is by which it came; none for the internal network
abbrev pub arrival_kind : PacketState → Option LinkKind
arrival_kind s = if is_external s then option_map link_kind (own_link s.network s.link) else None

-- ---- the info field and the hop field at the cursor

abbrev pub info : PacketState → InfoField
info s = info_there s.path.segments s.path.place

abbrev pub hop : PacketState → HopField
hop s = hop_there s.path.segments s.path.place

-- in the direction of construction the packet comes in by the hop's ConsIngress, else by its ConsEgress
abbrev pub ingress_of : InfoField → HopField → ℕ
ingress_of i h = if i.along then h.construction_ingress else h.construction_egress

abbrev pub egress_of : InfoField → HopField → ℕ
egress_of i h = if i.along then h.construction_egress else h.construction_ingress

abbrev pub is_along : PacketState → Bool
is_along s = (info s).along

abbrev pub ingress : PacketState → ℕ
ingress s = ingress_of (info s) (hop s)

abbrev pub egress : PacketState → ℕ
egress s = egress_of (info s) (hop s)

-- the router alert flags of the ingress and of the egress interface
abbrev pub ingress_alert : PacketState → Bool
ingress_alert s = if is_along s then (hop s).ingress_alert else (hop s).egress_alert

abbrev pub egress_alert : PacketState → Bool
egress_alert s = if is_along s then (hop s).egress_alert else (hop s).ingress_alert

-- ---- places

abbrev pub is_first_of_path : Place → Bool
is_first_of_path at = at.segment == 0 && at.position == 0

abbrev pub is_last_of_segment : PacketState → Bool
is_last_of_segment s = places.is_last_of_segment s.path.segments s.path.place

abbrev pub is_followed : PacketState → Bool
is_followed s = places.is_followed s.path.segments s.path.place

abbrev pub is_last_of_path : PacketState → Bool
is_last_of_path s = places.is_last_of_path s.path.segments s.path.place

-- the first hop of the next segment
abbrev pub next_segment : Place → Place
next_segment at = place_at (at.segment + 1) 0

-- the next hop of the segment, else the first hop of the next segment
abbrev pub next_place : List Segment → Place → Place
next_place ss at = if places.is_last_of_segment ss at then next_segment at else place_at at.segment (at.position + 1)

-- the hop by which the packet entered the AS: at a later segment's first hop, the last one of the segment before
abbrev pub entry_place : List Segment → Place → Place
entry_place ss at =
    if at.position == 0 then place_at (at.segment - 1) (hops_in ss (at.segment - 1) - 1) else at

-- the interface by which the packet entered the AS
abbrev pub entry : PacketState → ℕ
entry s =
    let at = entry_place s.path.segments s.path.place in
    ingress_of (info_there s.path.segments at) (hop_there s.path.segments at)

-- ---- pointers into the datagram

abbrev pub hop_pointer : PacketState → ℕ
hop_pointer s = front_len s.header + 4 + 8 * length s.path.segments + 12 * hop_number s.path.segments s.path.place

abbrev pub info_pointer : PacketState → ℕ
info_pointer s = front_len s.header + 4 + 8 * s.path.place.segment

-- ---- what the hop field shows

abbrev pub is_expired : PacketState → Bool
is_expired s = expiry.is_expired (info s) (hop s) s.moment

-- it carries the MAC that the AS's key gives with the segment identifier as it now is
abbrev pub is_authentic : PacketState → Bool
is_authentic s = hop_mac.is_authentic s.network.key (info s) (hop s)

-- ---- changes

abbrev pub with_place : PacketState → Place → PacketState
with_place s at = record s { path = record s.path { place = at } }

-- the segment's identifier, xored with the first two bytes of the current hop's MAC
abbrev pub chained_id : PacketState → ℕ
chained_id s = hop_mac.chain (info s).segment_id (hop s).mac

abbrev pub chained : PacketState → PacketState
chained s = record s { path = record s.path { segments = with_segment_id s.path.segments s.path.place.segment (chained_id s) } }

-- From outside against the direction of construction, the identifier is turned back to that of the current hop.
abbrev pub turned_back : PacketState → PacketState
turned_back s = if is_external s && not (is_along s) then chained s else s

-- at the first hop of the next segment
abbrev pub changed_over : PacketState → PacketState
changed_over s = record (with_place s (next_segment s.path.place)) { switched = true }

-- past the change of segments, where there is one
abbrev pub past_switch : PacketState → PacketState
past_switch s = if is_last_of_segment s && is_followed s then changed_over s else s
