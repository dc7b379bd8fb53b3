-- Blocks of AES-CMAC, as lists of 16 bytes; section numbers are those of RFC 4493.
use Rattle.std.specs.Prelude.{ℕ, ◌-◌, ◌*◌, ◌/◌, ◌%◌, ◌^◌, bit_xor, List, ◌∷◌, ◌++◌, map, length, replicate, slice_index}
use Rattle.std.specs.Int.{w128, from_be_bytes, to_be_bytes}
use Rattle.std.specs.List.{range_with_len}

abbrev pub zeros : List ℕ
zeros = replicate 16 0

-- the sum of two blocks
unfoldable pub xor_blocks : List ℕ → List ℕ → List ℕ
xor_blocks a b = map (λ i. bit_xor (slice_index a i) (slice_index b i)) (range_with_len 0 16)

-- a block, high byte first, shifted left by one bit; where the bit that is lost was 1, 87 hex is
-- added (2.3)
unfoldable pub doubled : List ℕ → List ℕ
doubled b = let n = from_be_bytes w128 b in to_be_bytes w128 (bit_xor (n * 2 % 2 ^ 128) (n / 2 ^ 127 * 0x87))

-- a part of a block, filled up by a 1 bit and zeros (2.4)
abbrev pub filled : List ℕ → List ℕ
filled part = part ++ 0x80 ∷ replicate (15 - length part) 0
