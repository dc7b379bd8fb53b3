-- A SCION path: its segments, and the place of the current hop (draft-dekater-scion-dataplane, "SCION Path Type").
use Rattle.std.specs.Prelude.{◌≡◌, ◌≤◌, ◌<◌, ◌==◌, nat_le, nat_lt, Bool, true, false, ◌&&◌, ℕ, zero, suc, ◌+◌, ◌-◌, ◌/◌, ◌%◌, ◌^◌, List, [], ◌∷◌, ◌++◌, length, map, take, slice_index, sum_by, Option}
use Rattle.std.specs.List.{AllByRecursion, flat_map, range_with_len}
use Rattle.field_rows.specs.Row.{Field, Fits, field, rows}
use Rattle.field_rows.specs.Place.{number_at, text_at}
use Rattle.scion_packet.specs.Fault.{Fault, Test, WrongLength, WrongPath, PeeringSegment, first_failing}
use Rattle.scion_packet.specs.Lengths.{segment_count, hop_count, are_lengths, segment_of, first_hop, info_place, hop_place, path_len}

pub record InfoField : Type 0 where
  pub reserved_flags : ℕ
  pub along : Bool  -- travelled in the direction of its construction
  pub reserved : ℕ
  pub segment_id : ℕ
  pub timestamp : ℕ

pub record HopField : Type 0 where
  pub reserved_flags : ℕ
  pub ingress_alert : Bool
  pub egress_alert : Bool
  pub expiry : ℕ
  pub construction_ingress : ℕ
  pub construction_egress : ℕ
  pub mac : List ℕ

pub record Segment : Type 0 where
  pub info : InfoField
  pub hops : List HopField

-- a hop of a path: its segment, and its position there
pub record Place : Type 0 where
  pub segment : ℕ
  pub position : ℕ

abbrev pub place_at : ℕ → ℕ → Place
place_at segment position = record { segment = segment; position = position }

pub record PathFields : Type 0 where
  pub reserved : ℕ
  pub place : Place  -- of the current hop
  pub segments : List Segment

-- ---- sizes

-- how many hops segment k has, 0 where there is none
abbrev pub hops_in : List Segment → ℕ → ℕ
hops_in [] k = 0
hops_in (s ∷ ss) zero = length s.hops
hops_in (s ∷ ss) (suc k) = hops_in ss k

abbrev pub count_hops : List Segment → ℕ
count_hops ss = sum_by (λ s. length s.hops) ss

-- the number of the hop at a place among all hops of the path
abbrev pub hop_number : List Segment → Place → ℕ
hop_number ss at = count_hops (take at.segment ss) + at.position

-- ---- the tables, row by row

-- the cursor's byte: the segment and the hop
abbrev pub cursor_row : ℕ → ℕ → List Field
cursor_row segment hop = field 2 segment ∷ field 6 hop ∷ []

abbrev pub lengths_row : PathFields → List Field
lengths_row p =
    field 6 p.reserved ∷ field 6 (hops_in p.segments 0) ∷ field 6 (hops_in p.segments 1) ∷ field 6 (hops_in p.segments 2) ∷ []

abbrev pub meta_table : PathFields → List (List Field)
meta_table p = cursor_row p.place.segment (hop_number p.segments p.place) ∷ lengths_row p ∷ []

-- a flag as a bit
abbrev pub bit : Bool → ℕ
bit false = 0
bit true = 1

-- 8 bytes; the bit before the last of the flags, for peering, is clear
abbrev pub info_table : InfoField → List (List Field)
info_table i =
    (field 6 i.reserved_flags ∷ field 1 0 ∷ field 1 (bit i.along) ∷ [])
    ∷ (field 8 i.reserved ∷ [])
    ∷ (field 16 i.segment_id ∷ [])
    ∷ (field 32 i.timestamp ∷ [])
    ∷ []

-- the first 6 bytes of a hop field
abbrev pub hop_table : HopField → List (List Field)
hop_table h =
    (field 6 h.reserved_flags ∷ field 1 (bit h.ingress_alert) ∷ field 1 (bit h.egress_alert) ∷ [])
    ∷ (field 8 h.expiry ∷ [])
    ∷ (field 16 h.construction_ingress ∷ [])
    ∷ (field 16 h.construction_egress ∷ [])
    ∷ []

-- 12 bytes: the fields and the MAC
abbrev pub hop_text : HopField → List ℕ
hop_text h = rows (hop_table h) ++ h.mac

-- the info fields of all segments, then their hop fields
abbrev pub infos_text : List Segment → List ℕ
infos_text ss = flat_map (λ s. rows (info_table s.info)) ss

abbrev pub hops_text : List Segment → List ℕ
hops_text ss = flat_map (λ s. flat_map hop_text s.hops) ss

abbrev pub path_text : PathFields → List ℕ
path_text p = rows (meta_table p) ++ (infos_text p.segments ++ hops_text p.segments)

-- ---- a lawful path

pub record IsHop (h : HopField) : Type 0 where
  pub fits : Fits (hop_table h)
  pub mac_len : length h.mac ≡ 6

pub record IsSegment (s : Segment) : Type 0 where
  pub info : Fits (info_table s.info)
  pub hops : AllByRecursion IsHop s.hops
  pub some : 1 ≤ length s.hops

-- One to three segments of at least one hop each, at most 64 hops in all, and the current hop is one of them.
pub record IsPath (p : PathFields) : Type 0 where
  pub meta : Fits (meta_table p)
  pub segments : AllByRecursion IsSegment p.segments
  pub some : 1 ≤ length p.segments
  pub few : length p.segments ≤ 3
  pub hops : count_hops p.segments ≤ 64
  pub inside : p.place.position < hops_in p.segments p.place.segment

-- The bytes are those of this path.
pub record SpellsPath (path : List ℕ) (p : PathFields) : Type 0 where
  pub lawful : IsPath p
  pub text : path ≡ path_text p

-- ---- the path of bytes: each number from its place

abbrev pub info_at : List ℕ → ℕ → InfoField
info_at path at = record {
  reserved_flags = slice_index path at / 4;
  along = slice_index path at % 2 == 1;
  reserved = slice_index path (at + 1);
  segment_id = number_at path (at + 2) 2;
  timestamp = number_at path (at + 4) 4;
}

abbrev pub hop_at : List ℕ → ℕ → HopField
hop_at path at = record {
  reserved_flags = slice_index path at / 4;
  ingress_alert = slice_index path at / 2 % 2 == 1;
  egress_alert = slice_index path at % 2 == 1;
  expiry = slice_index path (at + 1);
  construction_ingress = number_at path (at + 2) 2;
  construction_egress = number_at path (at + 4) 2;
  mac = text_at path (at + 6) 6;
}

-- a field of the meta word, by the number of bits after it and its width
abbrev pub meta_field : List ℕ → ℕ → ℕ → ℕ
meta_field path after width = number_at path 0 4 / 2 ^ after % 2 ^ width

abbrev pub current_info : List ℕ → ℕ
current_info path = meta_field path 30 2

abbrev pub current_hop : List ℕ → ℕ
current_hop path = meta_field path 24 6

abbrev pub lengths_of : List ℕ → List ℕ
lengths_of path = meta_field path 12 6 ∷ meta_field path 6 6 ∷ meta_field path 0 6 ∷ []

-- segment k of a path of these lengths
abbrev pub segment_at : List ℕ → List ℕ → ℕ → Segment
segment_at lengths path k = record {
  info = info_at path (info_place k);
  hops = map (λ hop. hop_at path (hop_place lengths hop)) (range_with_len (first_hop lengths k) (slice_index lengths k));
}

abbrev pub segments_at : List ℕ → List ℕ → List Segment
segments_at lengths path = map (segment_at lengths path) (range_with_len 0 (segment_count lengths))

abbrev pub path_of : List ℕ → PathFields
path_of path = record {
  reserved = meta_field path 18 6;
  place = place_at (current_info path) (current_hop path - first_hop (lengths_of path) (current_info path));
  segments = segments_at (lengths_of path) path;
}

-- ---- the tests of a path, in their order

-- the peering bit is clear in each of the first n info fields
abbrev pub no_peering : ℕ → List ℕ → Bool
no_peering zero path = true
no_peering (suc n) path = no_peering n path && (slice_index path (info_place n) / 2 % 2 == 0)

abbrev pub path_tests : List ℕ → List Test
path_tests path =
    (nat_le 4 (length path), WrongLength)
    ∷ (are_lengths (lengths_of path), WrongPath)
    ∷ (length path == path_len (lengths_of path), WrongLength)
    ∷ (nat_lt (current_hop path) (hop_count (lengths_of path)), WrongPath)
    ∷ (current_info path == segment_of (lengths_of path) (current_hop path), WrongPath)
    ∷ (no_peering (segment_count (lengths_of path)) path, PeeringSegment)
    ∷ []

abbrev pub path_fault : List ℕ → Option Fault
path_fault path = first_failing (path_tests path)
