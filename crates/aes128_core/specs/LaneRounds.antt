-- Rounds on 16 lanes in coordinates, as the code makes them.
use Rattle.std.specs.Prelude.{ℕ, List, map, bit_xor}
use Rattle.std.specs.Simd.Lanes.{zip2}
use Rattle.aes128_core.specs.Lanes.{substituted_of, doubled_of, last_of, moved}
use Rattle.aes128_core.specs.declared.lane_tables.TheConstants.{LAST_SHIFT}

abbrev pub xor_lanes : List ℕ → List ℕ → List ℕ
xor_lanes = zip2 bit_xor

-- after SubBytes: twice each row's byte, and the byte of the next row, whose lanes are `below`
abbrev pub twice_and_next : List ℕ → List ℕ → List ℕ
twice_and_next below x = xor_lanes (map doubled_of x) (moved (map substituted_of x) below)

-- SubBytes, MixColumns and the round key, where `below` and `above` are the lanes of the next row and of the row before
unfoldable pub round_lanes : List ℕ → List ℕ → List ℕ → List ℕ → List ℕ
round_lanes below above x key =
    xor_lanes (xor_lanes (xor_lanes (moved (map substituted_of x) above) key) (twice_and_next below x)) (moved (twice_and_next below x) below)

-- SubBytes, out of coordinates, ShiftRows and the round key
unfoldable pub last_round_lanes : List ℕ → List ℕ → List ℕ
last_round_lanes x key = xor_lanes (moved (map last_of x) LAST_SHIFT) key
