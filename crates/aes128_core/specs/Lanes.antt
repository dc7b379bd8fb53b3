-- The S-box by look-ups of 16 entries each, on one lane: a byte, or a byte's coordinates.
use Rattle.std.specs.Prelude.{ℕ, ◌/◌, Bool, true, ◌||◌, ◌&&◌, if◌then◌else◌, List, [], ◌∷◌, map, bit_and, bit_xor, nat_le, nat_lt, slice_index}
use Rattle.aes128_core.specs.declared.lane_tables.TheConstants.{INVERSES, RATIOS, LOW_COORDINATES, HIGH_COORDINATES, LAST_P, LAST_Q, SUBSTITUTED_P, SUBSTITUTED_Q, DOUBLED_P, DOUBLED_Q}

-- what a shuffle gives at the place j: 0 from 128 on
abbrev pub entry_at : List ℕ → ℕ → ℕ
entry_at table j = if nat_le 128 j then 0 else slice_index table j

-- a place that a shuffle takes
abbrev pub is_place : ℕ → Bool
is_place j = nat_le 128 j || nat_lt j 16

abbrev pub all_places : List ℕ → Bool
all_places [] = true
all_places (j ∷ js) = is_place j && all_places js

-- the lanes of x at these places
abbrev pub moved : List ℕ → List ℕ → List ℕ
moved x places = map (entry_at x) places

abbrev pub low_of : ℕ → ℕ
low_of b = bit_and b 15

abbrev pub high_of : ℕ → ℕ
high_of b = b / 16

-- the coordinates of a byte
unfoldable pub coordinates_of : ℕ → ℕ
coordinates_of b = bit_xor (entry_at LOW_COORDINATES (low_of b)) (entry_at HIGH_COORDINATES (high_of b))

-- of the coordinates c of k + i z: the numbers of j, which is i + k, of a / k, of 1 / i + a / k and of 1 / j + a / k
abbrev pub j_of : ℕ → ℕ
j_of c = bit_xor (high_of c) (low_of c)

abbrev pub ratio_of : ℕ → ℕ
ratio_of c = entry_at RATIOS (low_of c)

abbrev pub under_p : ℕ → ℕ
under_p c = bit_xor (entry_at INVERSES (high_of c)) (ratio_of c)

abbrev pub under_q : ℕ → ℕ
under_q c = bit_xor (entry_at INVERSES (j_of c)) (ratio_of c)

-- the numbers of p and q
abbrev pub p_of : ℕ → ℕ
p_of c = bit_xor (entry_at INVERSES (under_p c)) (j_of c)

abbrev pub q_of : ℕ → ℕ
q_of c = bit_xor (entry_at INVERSES (under_q c)) (high_of c)

-- the sum of one table's entry at p and another's at q
abbrev pub sum_at : List ℕ → List ℕ → ℕ → ℕ
sum_at for_p for_q c = bit_xor (entry_at for_p (p_of c)) (entry_at for_q (q_of c))

-- from coordinates: what the S-box gives and its double, in coordinates, and what it gives as a byte; each without a
-- constant, which is added with the round keys
unfoldable pub substituted_of : ℕ → ℕ
substituted_of = sum_at SUBSTITUTED_P SUBSTITUTED_Q

unfoldable pub doubled_of : ℕ → ℕ
doubled_of = sum_at DOUBLED_P DOUBLED_Q

unfoldable pub last_of : ℕ → ℕ
last_of = sum_at LAST_P LAST_Q
