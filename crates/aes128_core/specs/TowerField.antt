-- The bytes as pairs of elements of a field of 16, over which the S-box takes look-ups of 16 entries alone.
use Rattle.std.specs.Prelude.{ℕ, ◌*◌, ◌/◌, ◌%◌, bit_xor, [], ◌∷◌, map, slice_index}
use Rattle.std.specs.Int.{bit_at}
use Rattle.aes128_core.specs.Field.{times, inverse, xor_sum}
use Rattle.aes128_core.specs.SBox.{affine}

-- The bytes that are their own 16th power, by their numbers, 0 to 15: the number of a sum is the xor of the numbers.
abbrev pub element : ℕ → ℕ
element n = xor_sum (map (λ i. bit_at n i * slice_index (0x01 ∷ 0x0c ∷ 0x50 ∷ 0xb0 ∷ []) i) (0 ∷ 1 ∷ 2 ∷ 3 ∷ []))

-- z, a byte that is none of them and a root of x^2 + a x + a, and a, an element, which is z's norm
abbrev pub root : ℕ
root = 0x34

abbrev pub norm : ℕ
norm = 0x0c

-- the byte k + i z of its coordinates: the number of k in the low half, and that of i in the high half
abbrev pub byte_of : ℕ → ℕ
byte_of c = bit_xor (element (c % 16)) (times (element (c / 16)) root)

-- With j = i + k, p = 1 / (1 / i + a / k) + j and q = 1 / (1 / j + a / k) + i, the inverse of k + i z is
-- for_p / p + for_q / q.
abbrev pub for_q : ℕ
for_q = times root (inverse (times norm norm))

abbrev pub for_p : ℕ
for_p = xor_sum (1 ∷ times root (inverse norm) ∷ for_q ∷ [])

-- such a term after the affine map without its constant, where the divisor is the element n
abbrev pub term : ℕ → ℕ → ℕ
term dividend n = bit_xor (affine (times dividend (inverse (element n)))) 0x63
