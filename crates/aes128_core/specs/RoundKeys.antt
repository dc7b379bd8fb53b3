-- The round keys as the rounds on lanes add them, from the words of the key schedule.
use Rattle.std.specs.Prelude.{ℕ, ◌+◌, ◌*◌, ◌/◌, ◌%◌, List, [], ◌∷◌, map, bit_xor}
use Rattle.std.specs.List.{range_with_len}
use Rattle.aes128_core.specs.Lanes.{coordinates_of, moved}
use Rattle.aes128_core.specs.State.{at}
use Rattle.aes128_core.specs.declared.lane_tables.TheConstants.{ORDER_0, ORDER_1, ORDER_2, ORDER_3}

-- the key of round n as 16 bytes, column after column
abbrev pub round_key : List (List ℕ) → ℕ → List ℕ
round_key w n = map (λ i. at w (i % 4) (4 * n + i / 4)) (range_with_len 0 16)

-- that of a round from 1 to 9: with the S-box's constant, in coordinates, in the order of the lanes
abbrev pub inner_key : List (List ℕ) → ℕ → List ℕ → List ℕ
inner_key w n order = moved (map (λ k. coordinates_of (bit_xor k 0x63)) (round_key w n)) order

-- ShiftRows is put off to the last round, so the order of the lanes is another after each round, and after four the first
abbrev pub inner_keys : List (List ℕ) → List (List ℕ)
inner_keys w =
    inner_key w 1 ORDER_1 ∷ inner_key w 2 ORDER_2 ∷ inner_key w 3 ORDER_3 ∷ inner_key w 4 ORDER_0 ∷ inner_key w 5 ORDER_1
    ∷ inner_key w 6 ORDER_2 ∷ inner_key w 7 ORDER_3 ∷ inner_key w 8 ORDER_0 ∷ inner_key w 9 ORDER_1 ∷ []

-- that of round 10: with the S-box's constant
abbrev pub last_key : List (List ℕ) → List ℕ
last_key w = map (λ k. bit_xor k 0x63) (round_key w 10)
