-- Where the pointer of a problem points: at the field that its code names, inside the header.
use Rattle.std.specs.Prelude.{ℕ, ◌≡◌, ◌⊎◌, ◌≤◌, ◌<◌, ◌+◌, ◌*◌, List, length}
use Rattle.field_rows.specs.Place.{IsBytes}
use Rattle.scion_packet.specs.Header.{front_end, header_end}
use Rattle.scion_packet.specs.Packet.{packet_of, path_bytes}
use Rattle.scion_packet.specs.Path.{Place, hop_at, hop_number, info_at, place_at}
use Rattle.scion_packet.specs.Places.{hop_there, info_there}
use Rattle.process_packet.specs.declared.decision.Decision.TheVariants as decision
use Rattle.process_packet.specs.declared.decision.Problem.{Problem}
use Rattle.process_packet.specs.declared.underlay.Underlay.{Underlay}
use Rattle.process_packet.specs.Decide.{decide}
use Rattle.process_packet.specs.Network.{Network}
use Rattle.process_packet.specs.PacketState.{next_segment}

-- The hop field's own place: behind the addresses, the path's four bytes, eight for each segment and twelve for each hop before
-- it. The twelve bytes there are this hop field, inside the path.
pub record PointsAtHop (bytes : List ℕ) (at : Place) (pointer : ℕ) : Type 0 where
  pub offset : ℕ
  pub place : offset ≡ 4 + 8 * length (packet_of bytes).path.segments + 12 * hop_number (packet_of bytes).path.segments at
  pub is : pointer ≡ front_end bytes + offset
  pub inside : offset + 12 ≤ length (path_bytes bytes)
  pub field : hop_at (path_bytes bytes) offset ≡ hop_there (packet_of bytes).path.segments at

-- The info field's own place, and the eight bytes there are this info field.
pub record PointsAtInfo (bytes : List ℕ) (segment pointer : ℕ) : Type 0 where
  pub offset : ℕ
  pub place : offset ≡ 4 + 8 * segment
  pub is : pointer ≡ front_end bytes + offset
  pub inside : offset + 8 ≤ length (path_bytes bytes)
  pub field : info_at (path_bytes bytes) offset ≡ info_there (packet_of bytes).path.segments (place_at segment 0)

-- the hop at the cursor, or the first one of the next segment
abbrev pub IsAtHand : List ℕ → Place → Type 0
IsAtHand bytes at = (at ≡ (packet_of bytes).path.place) ⊎ (at ≡ next_segment (packet_of bytes).path.place)

-- A code, and the pointer that goes with it: the datagram's beginning for a wrong size (19), byte 9 for an unknown kind of
-- host (21), the domains of the source (33) and of the destination (34), the hop at the cursor for a pair of links on one
-- segment (48), a hop at hand for an interface (49 and 50), a MAC (51) or an expiry (52), and the info field of the next segment
-- for a change of segments (53).
pub data IsNamed (bytes : List ℕ) : ℕ → ℕ → Type 0 where
  size : IsNamed bytes 19 0
  host_kinds : IsNamed bytes 21 9
  source : IsNamed bytes 33 20
  destination : IsNamed bytes 34 12
  straight : {pointer : ℕ} → PointsAtHop bytes (packet_of bytes).path.place pointer → IsNamed bytes 48 pointer
  interface : {code pointer : ℕ} (at : Place) → (code ≡ 49) ⊎ (code ≡ 50) → IsAtHand bytes at → PointsAtHop bytes at pointer → IsNamed bytes code pointer
  mac : {pointer : ℕ} (at : Place) → IsAtHand bytes at → PointsAtHop bytes at pointer → IsNamed bytes 51 pointer
  expiry : {pointer : ℕ} (at : Place) → IsAtHand bytes at → PointsAtHop bytes at pointer → IsNamed bytes 52 pointer
  segment : {pointer : ℕ} → PointsAtInfo bytes ((packet_of bytes).path.place.segment + 1) pointer → IsNamed bytes 53 pointer

-- A parameter problem (type 4) points at the field that its code names, inside the header; an unreachable destination
-- (type 1) has no pointer.
pub record PointsRight (bytes : List ℕ) (q : Problem) : Type 0 where
  pub named : q.kind ≡ 4 → IsNamed bytes q.code q.pointer
  pub inside : q.kind ≡ 4 → q.pointer < header_end bytes
  pub none : q.kind ≡ 1 → q.pointer ≡ 0

abbrev pub PointersAreRight : Type 0
PointersAreRight =
    (n : Network) (link : ℕ) (source : Underlay) (moment : ℕ) (bytes : List ℕ) (q : Problem) → IsBytes bytes
    → decide n link source moment bytes ≡ decision.Answer q → PointsRight bytes q
