-- A path of one hop, on which routers of neighbouring ASes send each other beacons, and a packet on it
-- (draft-dekater-scion-dataplane, "One-Hop Path Type").
use Rattle.std.specs.Prelude.{◌≡◌, ◌==◌, true, ℕ, ◌+◌, ◌*◌, ◌/◌, ◌%◌, List, [], ◌∷◌, ◌++◌, length, drop, slice_index, Option}
use Rattle.field_rows.specs.Row.{Fits, rows}
use Rattle.field_rows.specs.Place.{text_at}
use Rattle.scion_packet.specs.Fault.{Fault, Test, WrongLength, WrongPath, PeeringSegment, first_failing}
use Rattle.scion_packet.specs.Header.{HeaderFields, IsHeader, front_len, header_end, header_of, header_tests_as, header_text, one_hop_path}
use Rattle.scion_packet.specs.Path.{HopField, InfoField, IsHop, hop_at, hop_text, info_at, info_table}
use Rattle.scion_packet.specs.Packet.{path_bytes}

pub record OneHopPath : Type 0 where
  pub info : InfoField
  pub first : HopField  -- of the AS from which the packet comes
  pub second : List ℕ  -- of the AS that it enters: no fields before its router has written them

-- 8 bytes, and twelve for each hop field
abbrev pub one_hop_text : OneHopPath → List ℕ
one_hop_text p = rows (info_table p.info) ++ (hop_text p.first ++ p.second)

-- ---- a lawful path

-- It is travelled in the direction of its construction; the second hop field may be any twelve bytes.
pub record IsOneHopPath (p : OneHopPath) : Type 0 where
  pub info : Fits (info_table p.info)
  pub along : p.info.along ≡ true
  pub first : IsHop p.first
  pub second_len : length p.second ≡ 12

-- The bytes are those of this path.
pub record SpellsOneHopPath (path : List ℕ) (p : OneHopPath) : Type 0 where
  pub lawful : IsOneHopPath p
  pub text : path ≡ one_hop_text p

-- ---- the path of bytes: each number from its place

abbrev pub one_hop_path_of : List ℕ → OneHopPath
one_hop_path_of path = record {
  info = info_at path 0;
  first = hop_at path 8;
  second = text_at path 20 12;
}

-- ---- the tests of a path, in their order

abbrev pub one_hop_path_tests : List ℕ → List Test
one_hop_path_tests path =
    (length path == 32, WrongLength)
    ∷ (slice_index path 0 / 2 % 2 == 0, PeeringSegment)
    ∷ (slice_index path 0 % 2 == 1, WrongPath)
    ∷ []

abbrev pub one_hop_path_fault : List ℕ → Option Fault
one_hop_path_fault path = first_failing (one_hop_path_tests path)

-- ---- a packet on it, and the one datagram that spells it

pub record OneHopPacket : Type 0 where
  pub header : HeaderFields
  pub path : OneHopPath
  pub payload : List ℕ

-- the datagram of a packet
abbrev pub one_hop_spelling : OneHopPacket → List ℕ
one_hop_spelling p = header_text p.header ++ (one_hop_text p.path ++ p.payload)

-- The header and the path are lawful, and the header's length is that of both.
pub record IsOneHopPacket (p : OneHopPacket) : Type 0 where
  pub header : IsHeader p.header
  pub path_type : p.header.path_type ≡ one_hop_path
  pub path : IsOneHopPath p.path
  pub whole : 4 * p.header.header_length ≡ front_len p.header + length (one_hop_text p.path)

-- The datagram spells the packet.
pub record SpellsOneHop (bytes : List ℕ) (p : OneHopPacket) : Type 0 where
  pub lawful : IsOneHopPacket p
  pub text : bytes ≡ one_hop_spelling p

-- each number from its place
abbrev pub one_hop_packet_of : List ℕ → OneHopPacket
one_hop_packet_of bytes = record {
  header = header_of bytes;
  path = one_hop_path_of (path_bytes bytes);
  payload = drop (header_end bytes) bytes;
}

-- all tests of a datagram, in their order
abbrev pub one_hop_tests : List ℕ → List Test
one_hop_tests bytes = header_tests_as one_hop_path bytes ++ one_hop_path_tests (path_bytes bytes)

abbrev pub one_hop_fault : List ℕ → Option Fault
one_hop_fault bytes = first_failing (one_hop_tests bytes)
