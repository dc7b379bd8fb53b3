-- The common header and the address header (draft-dekater-scion-dataplane, "SCION Header Specification").
use Rattle.std.specs.Prelude.{◌≡◌, ◌≤◌, ◌==◌, nat_le, ℕ, ◌+◌, ◌-◌, ◌*◌, ◌/◌, ◌%◌, ◌^◌, List, [], ◌∷◌, ◌++◌, length, slice_index, Option}
use Rattle.field_rows.specs.Row.{Field, Fits, field, rows}
use Rattle.field_rows.specs.Place.{StandsAt, number_at, text_at}
use Rattle.scion_packet.specs.Fault.{Fault, Test, TooShort, WrongVersion, WrongPathType, WrongLength, first_failing}

-- an end host: its isolation domain, its AS, what kind of host it is, and the host's address
pub record HostAddress : Type 0 where
  pub isd : ℕ
  pub autonomous_system : ℕ
  pub kind : ℕ
  pub host : List ℕ

pub record HeaderFields : Type 0 where
  pub traffic_class : ℕ
  pub flow_id : ℕ
  pub next_header : ℕ
  pub header_length : ℕ  -- of the whole header, in units of four bytes
  pub payload_length : ℕ
  pub path_type : ℕ
  pub reserved : ℕ
  pub destination : HostAddress
  pub source : HostAddress

-- the path types that are carried: a SCION path, and a path of one hop
abbrev pub scion_path : ℕ
scion_path = 1

abbrev pub one_hop_path : ℕ
one_hop_path = 2

-- ---- the tables, row by row

-- the length code of a host: one less than the number of its four-byte words
abbrev pub host_code : HostAddress → ℕ
host_code a = length a.host / 4 - 1

-- how many bytes a host of this length code has
abbrev pub host_len : ℕ → ℕ
host_len code = 4 * (code + 1)

abbrev pub common_table : HeaderFields → List (List Field)
common_table h =
    -- version, traffic class, flow
    (field 4 0 ∷ field 8 h.traffic_class ∷ field 20 h.flow_id ∷ [])
    ∷ (field 8 h.next_header ∷ [])
    ∷ (field 8 h.header_length ∷ [])
    ∷ (field 16 h.payload_length ∷ [])
    ∷ (field 8 h.path_type ∷ [])
    ∷ (field 2 h.destination.kind ∷ field 2 (host_code h.destination) ∷ field 2 h.source.kind ∷ field 2 (host_code h.source) ∷ [])
    ∷ (field 16 h.reserved ∷ [])
    ∷ []

abbrev pub domain_table : HostAddress → List (List Field)
domain_table a = (field 16 a.isd ∷ []) ∷ (field 48 a.autonomous_system ∷ []) ∷ []

-- the common header, then the address header
abbrev pub header_text : HeaderFields → List ℕ
header_text h =
    rows (common_table h)
    ++ (rows (domain_table h.destination) ++ (rows (domain_table h.source) ++ (h.destination.host ++ h.source.host)))

-- how many bytes the address header has, and both headers together
abbrev pub address_len : HeaderFields → ℕ
address_len h = 16 + length h.destination.host + length h.source.host

abbrev pub front_len : HeaderFields → ℕ
front_len h = 12 + address_len h

-- ---- a lawful header

abbrev pub IsAddress : HostAddress → Type 0
IsAddress a = Fits (domain_table a) × (length a.host ≡ host_len (host_code a))

-- each field has room for its number, and the header's length covers the addresses
pub record IsHeader (h : HeaderFields) : Type 0 where
  pub common : Fits (common_table h)
  pub destination : IsAddress h.destination
  pub source : IsAddress h.source
  pub covers : front_len h ≤ 4 * h.header_length

-- The datagram begins with this header, and is as long as the header says or longer.
pub record SpellsHeader (bytes : List ℕ) (h : HeaderFields) : Type 0 where
  pub lawful : IsHeader h
  pub front : StandsAt bytes 0 (header_text h)
  pub whole : 4 * h.header_length ≤ length bytes

-- ---- the header of a datagram: each number from its place

-- byte 9: the kinds and the length codes of both hosts
abbrev pub host_kinds : List ℕ → ℕ
host_kinds bytes = slice_index bytes 9

-- the address whose domain and host begin at these places, by its four bits of byte 9
abbrev pub address_of : List ℕ → ℕ → ℕ → ℕ → HostAddress
address_of bytes domain host bits = record {
  isd = number_at bytes domain 2;
  autonomous_system = number_at bytes (domain + 2) 6;
  kind = bits / 4;
  host = text_at bytes host (host_len (bits % 4));
}

abbrev pub header_of : List ℕ → HeaderFields
header_of bytes = record {
  traffic_class = number_at bytes 0 4 / 2 ^ 20 % 2 ^ 8;
  flow_id = number_at bytes 0 4 % 2 ^ 20;
  next_header = slice_index bytes 4;
  header_length = slice_index bytes 5;
  payload_length = number_at bytes 6 2;
  path_type = slice_index bytes 8;
  reserved = number_at bytes 10 2;
  destination = address_of bytes 12 28 (host_kinds bytes / 16);
  source = address_of bytes 20 (28 + host_len (host_kinds bytes / 16 % 4)) (host_kinds bytes % 16);
}

-- how many bytes both headers of a datagram have, by byte 9
abbrev pub front_end : List ℕ → ℕ
front_end bytes = 28 + host_len (host_kinds bytes / 16 % 4) + host_len (host_kinds bytes % 4)

-- where the whole header of a datagram ends
abbrev pub header_end : List ℕ → ℕ
header_end bytes = 4 * slice_index bytes 5

-- ---- the tests of a header, in their order

-- of a datagram whose path is to be of this type
abbrev pub header_tests_as : ℕ → List ℕ → List Test
header_tests_as path_type bytes =
    (nat_le 12 (length bytes), TooShort)
    ∷ (slice_index bytes 0 / 16 == 0, WrongVersion)
    ∷ (slice_index bytes 8 == path_type, WrongPathType)
    ∷ (nat_le (front_end bytes) (header_end bytes), WrongLength)
    ∷ (nat_le (header_end bytes) (length bytes), TooShort)
    ∷ []

abbrev pub header_fault_as : ℕ → List ℕ → Option Fault
header_fault_as path_type bytes = first_failing (header_tests_as path_type bytes)

-- of one whose path is to be a SCION path
abbrev pub header_tests : List ℕ → List Test
header_tests bytes = header_tests_as scion_path bytes

abbrev pub header_fault : List ℕ → Option Fault
header_fault bytes = header_fault_as scion_path bytes
