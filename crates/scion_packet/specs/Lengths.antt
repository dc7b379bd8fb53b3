-- The three segment lengths of a path (draft-dekater-scion-dataplane, "Path Meta Header").
use Rattle.std.specs.Prelude.{ℕ, ◌+◌, ◌*◌, zero, suc, Bool, ◌&&◌, ◌||◌, ◌==◌, nat_le, nat_lt, List, slice_index, if◌then◌else◌}

-- how many segments are used
abbrev pub segment_count : List ℕ → ℕ
segment_count lengths = if slice_index lengths 1 == 0 then 1 else if slice_index lengths 2 == 0 then 2 else 3

-- how many hops there are
abbrev pub hop_count : List ℕ → ℕ
hop_count lengths = slice_index lengths 0 + slice_index lengths 1 + slice_index lengths 2

-- at least one hop, only zeros after a zero length, and at most 64 hops
abbrev pub are_lengths : List ℕ → Bool
are_lengths lengths =
    nat_le 1 (slice_index lengths 0) && (nat_le 1 (slice_index lengths 1) || slice_index lengths 2 == 0) && nat_le (hop_count lengths) 64

-- the segment in which a hop lies
abbrev pub segment_of : List ℕ → ℕ → ℕ
segment_of lengths hop =
    if nat_lt hop (slice_index lengths 0) then 0
    else if nat_lt hop (slice_index lengths 0 + slice_index lengths 1) then 1 else 2

-- the number of the first hop of a segment
abbrev pub first_hop : List ℕ → ℕ → ℕ
first_hop lengths zero = 0
first_hop lengths (suc zero) = slice_index lengths 0
first_hop lengths (suc (suc k)) = slice_index lengths 0 + slice_index lengths 1

-- where an info field, the hop fields and one hop field begin, in the bytes of a path
abbrev pub info_place : ℕ → ℕ
info_place segment = 4 + 8 * segment

abbrev pub hops_place : List ℕ → ℕ
hops_place lengths = info_place (segment_count lengths)

abbrev pub hop_place : List ℕ → ℕ → ℕ
hop_place lengths hop = hops_place lengths + 12 * hop

-- how many bytes a path of these lengths has
abbrev pub path_len : List ℕ → ℕ
path_len lengths = hop_place lengths (hop_count lengths)
