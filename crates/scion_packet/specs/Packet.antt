-- A packet on a SCION path, and the one datagram that spells it.
use Rattle.std.specs.Prelude.{◌≡◌, ℕ, ◌+◌, ◌-◌, ◌*◌, List, ◌++◌, length, drop, Option}
use Rattle.field_rows.specs.Place.{text_at}
use Rattle.scion_packet.specs.Fault.{Fault, Test, first_failing}
use Rattle.scion_packet.specs.Header.{HeaderFields, IsHeader, front_end, front_len, header_end, header_of, header_tests, header_text, scion_path}
use Rattle.scion_packet.specs.Path.{PathFields, IsPath, path_of, path_tests, path_text}

pub record Packet : Type 0 where
  pub header : HeaderFields
  pub path : PathFields
  pub payload : List ℕ

-- the datagram of a packet
abbrev pub spelling : Packet → List ℕ
spelling p = header_text p.header ++ (path_text p.path ++ p.payload)

-- The header and the path are lawful, and the header's length is that of both.
pub record IsPacket (p : Packet) : Type 0 where
  pub header : IsHeader p.header
  pub path_type : p.header.path_type ≡ scion_path
  pub path : IsPath p.path
  pub whole : 4 * p.header.header_length ≡ front_len p.header + length (path_text p.path)

-- The datagram spells the packet.
pub record Spells (bytes : List ℕ) (p : Packet) : Type 0 where
  pub lawful : IsPacket p
  pub text : bytes ≡ spelling p

-- ---- the packet of a datagram: each number from its place

-- the bytes from the end of the addresses to the end of the header
abbrev pub path_bytes : List ℕ → List ℕ
path_bytes bytes = text_at bytes (front_end bytes) (header_end bytes - front_end bytes)

abbrev pub packet_of : List ℕ → Packet
packet_of bytes = record {
  header = header_of bytes;
  path = path_of (path_bytes bytes);
  payload = drop (header_end bytes) bytes;
}

-- ---- all tests of a datagram, in their order

abbrev pub tests : List ℕ → List Test
tests bytes = header_tests bytes ++ path_tests (path_bytes bytes)

abbrev pub first_fault : List ℕ → Option Fault
first_fault bytes = first_failing (tests bytes)
