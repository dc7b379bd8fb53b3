-- What reading and spelling have to do with each other.
use Rattle.std.specs.Prelude.{◌≡◌, ◌<◌, ℕ, ◌+◌, List, ◌++◌, ◌≤◌, ◌==◌, drop, length, None, slice_index, take}
use Rattle.field_rows.specs.Place.{IsBytes}
use Rattle.scion_packet.specs.Header.{HeaderFields, SpellsHeader, front_end, header_end, header_fault_as, header_of}
use Rattle.scion_packet.specs.Lengths.{first_hop, hop_count, hop_place, info_place, path_len, segment_count}
use Rattle.scion_packet.specs.Path.{PathFields, SpellsPath, count_hops, current_hop, current_info, hop_at, hop_number, hops_in, info_at, lengths_of, path_fault, path_of, path_text, place_at}
use Rattle.scion_packet.specs.Places.{hop_there, info_there, is_last_of_path}
use Rattle.scion_packet.specs.Packet.{Packet, Spells, first_fault, packet_of, spelling}
use Rattle.scion_packet.specs.OneHop.{OneHopPacket, OneHopPath, SpellsOneHop, one_hop_fault, one_hop_packet_of, one_hop_spelling, one_hop_text}

-- What passes all tests spells what is read from it, byte for byte; what spells anything passes all
-- tests; and it spells nothing but what is read from it.
pub record HeaderLaws : Type 0 where
  pub spelled : (path_type : ℕ) (bytes : List ℕ) → IsBytes bytes → header_fault_as path_type bytes ≡ None → SpellsHeader bytes (header_of bytes)
  pub of_type : (path_type : ℕ) (bytes : List ℕ) → header_fault_as path_type bytes ≡ None → (header_of bytes).path_type ≡ path_type
  pub passes : (bytes : List ℕ) (h : HeaderFields) → SpellsHeader bytes h → header_fault_as h.path_type bytes ≡ None
  pub only : (bytes : List ℕ) (h : HeaderFields) → SpellsHeader bytes h → h ≡ header_of bytes

pub record PathLaws : Type 0 where
  pub spelled : (path : List ℕ) → IsBytes path → path_fault path ≡ None → SpellsPath path (path_of path)
  pub passes : (path : List ℕ) (p : PathFields) → SpellsPath path p → path_fault path ≡ None
  pub only : (path : List ℕ) (p : PathFields) → SpellsPath path p → p ≡ path_of path

pub record PacketLaws : Type 0 where
  pub spelled : (bytes : List ℕ) → IsBytes bytes → first_fault bytes ≡ None → Spells bytes (packet_of bytes)
  pub passes : (bytes : List ℕ) (p : Packet) → Spells bytes p → first_fault bytes ≡ None
  pub only : (bytes : List ℕ) (p : Packet) → Spells bytes p → p ≡ packet_of bytes

-- The same of packets on a path of one hop.
pub record OneHopLaws : Type 0 where
  pub spelled : (bytes : List ℕ) → IsBytes bytes → one_hop_fault bytes ≡ None → SpellsOneHop bytes (one_hop_packet_of bytes)
  pub passes : (bytes : List ℕ) (p : OneHopPacket) → SpellsOneHop bytes p → one_hop_fault bytes ≡ None
  pub only : (bytes : List ℕ) (p : OneHopPacket) → SpellsOneHop bytes p → p ≡ one_hop_packet_of bytes

-- No datagram spells packets of both kinds.
abbrev pub KindsAreApart : Type 0
KindsAreApart = (bytes : List ℕ) (p : Packet) (q : OneHopPacket) → Spells bytes p → SpellsOneHop bytes q → ⊥

-- A datagram with the bytes of its path written over by those of another one of their length spells its packet with
-- that path.
abbrev pub PathWrittenOver : Type 0
PathWrittenOver =
    (bytes new path : List ℕ) (q : PathFields) → IsBytes bytes → first_fault bytes ≡ None → path ≡ path_text q
    → new ≡ take (front_end bytes) bytes ++ (path ++ drop (header_end bytes) bytes)
    → new ≡ spelling (record (packet_of bytes) { path = q })

-- The same of a path of one hop.
abbrev pub OneHopWrittenOver : Type 0
OneHopWrittenOver =
    (bytes new path : List ℕ) (q : OneHopPath) → IsBytes bytes → one_hop_fault bytes ≡ None → path ≡ one_hop_text q
    → new ≡ take (front_end bytes) bytes ++ (path ++ drop (header_end bytes) bytes)
    → new ≡ one_hop_spelling (record (one_hop_packet_of bytes) { path = q })

-- In the bytes of a path that passes all tests, the info field and the hop field at any place stand at
-- one offset each, and the current ones at the offsets that the cursor names: whoever wants one reads
-- nothing else.
pub record FieldsStand (path : List ℕ) : Type 0 where
  pub info : (k i : ℕ) → k < segment_count (lengths_of path) → info_there (path_of path).segments (place_at k i) ≡ info_at path (info_place k)
  pub hop : (k i : ℕ) → k < segment_count (lengths_of path) → i < slice_index (lengths_of path) k
      → hop_there (path_of path).segments (place_at k i) ≡ hop_at path (hop_place (lengths_of path) (first_hop (lengths_of path) k + i))
  pub count : length (path_of path).segments ≡ segment_count (lengths_of path)
  pub hops : (k : ℕ) → k < segment_count (lengths_of path) → hops_in (path_of path).segments k ≡ slice_index (lengths_of path) k
  pub number : (k i : ℕ) → k < segment_count (lengths_of path)
      → hop_number (path_of path).segments (place_at k i) ≡ first_hop (lengths_of path) k + i
  -- segment after segment, each of at least one hop, and at most 64 hops in all
  pub some : (k : ℕ) → k < segment_count (lengths_of path) → 1 ≤ slice_index (lengths_of path) k
  pub follows : (k : ℕ) → k + 1 < segment_count (lengths_of path)
      → first_hop (lengths_of path) (k + 1) ≡ first_hop (lengths_of path) k + slice_index (lengths_of path) k
  pub within : (k i : ℕ) → k < segment_count (lengths_of path) → i < slice_index (lengths_of path) k
      → first_hop (lengths_of path) k + i < hop_count (lengths_of path)
  pub few_hops : hop_count (lengths_of path) ≤ 64
  pub all_hops : hop_count (lengths_of path) ≡ count_hops (path_of path).segments
  pub whole : length path ≡ path_len (lengths_of path)
  pub begins : first_hop (lengths_of path) (current_info path) ≤ current_hop path
  pub ends : current_hop path < first_hop (lengths_of path) (current_info path) + slice_index (lengths_of path) (current_info path)
  pub current_info_field : info_there (path_of path).segments (path_of path).place ≡ info_at path (info_place (current_info path))
  pub current_hop_field : hop_there (path_of path).segments (path_of path).place ≡ hop_at path (hop_place (lengths_of path) (current_hop path))
  pub there : current_info path < length (path_of path).segments
  pub few : length (path_of path).segments ≤ 3
  pub info_room : info_place (current_info path) + 8 ≤ length path
  pub hop_room : hop_place (lengths_of path) (current_hop path) + 12 ≤ length path
  pub last : is_last_of_path (path_of path).segments (path_of path).place ≡ (current_hop path + 1 == hop_count (lengths_of path))
  pub current_hop_number : hop_number (path_of path).segments (path_of path).place ≡ current_hop path

abbrev pub OffsetLaws : Type 0
OffsetLaws = (path : List ℕ) → IsBytes path → path_fault path ≡ None → FieldsStand path
