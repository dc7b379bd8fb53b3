-- The tables of 16 bytes, each computed from its definition, and what their look-ups come to, computed over every byte.
use Rattle.std.proofs.Common.{◌≡◌, ℕ, ◌<◌, ◌+◌, ◌*◌, ◌/◌, ◌%◌, List, [], ◌∷◌, map, refl, sym, ap, ap₂, ◌∙◌, arith, bit_xor}
use Rattle.std.specs.List.{fold, range_with_len}
use Rattle.std.proofs.lemmas.Nat.{xor_shr, xor_mod}
use lib.Bits.{and_mask}
use Rattle.aes128_core.specs.Field.{times, inverse}
use Rattle.aes128_core.specs.SBox.{s_box}
use Rattle.aes128_core.specs.TowerField.{byte_of, element, for_p, for_q, norm, root, term}
use Rattle.aes128_core.specs.Lanes.{coordinates_of, substituted_of, doubled_of, last_of, entry_at, low_of, high_of}
use Rattle.aes128_core.specs.declared.lane_tables.TheConstants.{INVERSES, RATIOS, LOW_COORDINATES, HIGH_COORDINATES, LAST_P, LAST_Q, SUBSTITUTED_P, SUBSTITUTED_Q, DOUBLED_P, DOUBLED_Q, ORDER_0, ORDER_1, ORDER_2, ORDER_3, BELOW_0, BELOW_1, BELOW_2, BELOW_3, ABOVE_0, ABOVE_1, ABOVE_2, ABOVE_3, LAST_SHIFT}
use Rattle.aes128_core.proofs.TableRules.{entry}
use Rattle.aes128_core.proofs.XorLemmas.{xor_middle}

abbrev sixteen : List ℕ
sixteen = range_with_len 0 16

abbrev bytes : List ℕ
bytes = range_with_len 0 256

-- ---- what the tables are

-- the elements are their own 16th powers
elements_rule : map (λ n. fold {A = ℕ} (λ p i. times p p) (element n) (1 ∷ 2 ∷ 3 ∷ 4 ∷ [])) sixteen ≡ map element sixteen
unfolding times
elements_rule = refl

root_rule : bit_xor (bit_xor (times root root) (times norm root)) norm ≡ 0
unfolding times
root_rule = refl

-- each byte is that of its coordinates
coordinates_rule : map (λ b. byte_of (coordinates_of b)) bytes ≡ bytes
unfolding times coordinates_of
coordinates_rule = refl

inverses_rule : INVERSES ≡ 0x80 ∷ map (λ n. coordinates_of (inverse (element n))) (range_with_len 1 15)
unfolding times inverse coordinates_of
inverses_rule = refl

ratios_rule : RATIOS ≡ 0x80 ∷ map (λ n. coordinates_of (times norm (inverse (element n)))) (range_with_len 1 15)
unfolding times inverse coordinates_of
ratios_rule = refl

last_p_rule : LAST_P ≡ map (term for_p) sixteen
unfolding times inverse
last_p_rule = refl

last_q_rule : LAST_Q ≡ map (term for_q) sixteen
unfolding times inverse
last_q_rule = refl

substituted_p_rule : SUBSTITUTED_P ≡ map (λ n. coordinates_of (term for_p n)) sixteen
unfolding times inverse coordinates_of
substituted_p_rule = refl

substituted_q_rule : SUBSTITUTED_Q ≡ map (λ n. coordinates_of (term for_q n)) sixteen
unfolding times inverse coordinates_of
substituted_q_rule = refl

doubled_p_rule : DOUBLED_P ≡ map (λ n. coordinates_of (times 2 (term for_p n))) sixteen
unfolding times inverse coordinates_of
doubled_p_rule = refl

doubled_q_rule : DOUBLED_Q ≡ map (λ n. coordinates_of (times 2 (term for_q n))) sixteen
unfolding times inverse coordinates_of
doubled_q_rule = refl

-- ---- where the lanes are

-- the place of row r and column c, both modulo 4
abbrev place : ℕ → ℕ → ℕ
place r c = r % 4 + 4 * (c % 4)

-- ShiftRows takes row r of column c from column c + r. So where it is put off n times, the lane at row r and column c
-- has the byte of column c - n r, and that of row r + 1 in this byte's column is n columns further on.
abbrev order : ℕ → List ℕ
order n = map (λ i. place i (i / 4 + 3 * n * (i % 4))) sixteen

abbrev below : ℕ → List ℕ
below n = map (λ i. place (i + 1) (i / 4 + n)) sixteen

abbrev above : ℕ → List ℕ
above n = map (λ i. place (i + 3) (i / 4 + 3 * n)) sixteen

order_rule : ORDER_0 ∷ ORDER_1 ∷ ORDER_2 ∷ ORDER_3 ∷ [] ≡ map order (0 ∷ 1 ∷ 2 ∷ 3 ∷ [])
order_rule = refl

below_rule : BELOW_0 ∷ BELOW_1 ∷ BELOW_2 ∷ BELOW_3 ∷ [] ≡ map below (0 ∷ 1 ∷ 2 ∷ 3 ∷ [])
below_rule = refl

above_rule : ABOVE_0 ∷ ABOVE_1 ∷ ABOVE_2 ∷ ABOVE_3 ∷ [] ≡ map above (0 ∷ 1 ∷ 2 ∷ 3 ∷ [])
above_rule = refl

-- the ninth round leaves ORDER_1, and the last one shifts once more
last_shift_rule : LAST_SHIFT ≡ map (λ i. place i (i / 4 + 2 * (i % 4))) sixteen
last_shift_rule = refl

-- ---- what look-ups come to

-- two functions that agree over the first n numbers
agree_at : (f g : ℕ → ℕ) (n i : ℕ) → map f (range_with_len 0 n) ≡ map g (range_with_len 0 n) → i < n → f i ≡ g i
agree_at f g n i e lt =
    sym (entry f (map f (range_with_len 0 n)) n i 0 refl lt) ∙ entry g (map f (range_with_len 0 n)) n i 0 e lt

double_table : map (λ b. times 2 b / 256) bytes ≡ map (λ _. 0) bytes
unfolding times
double_table = refl

pub double_lt : (b : ℕ) → b < 256 → times 2 b < 256
double_lt b lt =
    let none : times 2 b / 256 ≡ 0 = agree_at (λ b. times 2 b / 256) (λ _. 0) 256 b double_table lt in omega arith

one_table : map (times 1) bytes ≡ map (λ b. b) bytes
unfolding times
one_table = refl

pub one_at : (b : ℕ) → b < 256 → times 1 b ≡ b
one_at b lt = agree_at (times 1) (λ b. b) 256 b one_table lt

three_table : map (times 3) bytes ≡ map (λ b. bit_xor (times 2 b) b) bytes
unfolding times
three_table = refl

pub three_at : (b : ℕ) → b < 256 → times 3 b ≡ bit_xor (times 2 b) b
three_at b lt = agree_at (times 3) (λ b. bit_xor (times 2 b) b) 256 b three_table lt

-- ---- the S-box, from coordinates

last_table : map (λ b. bit_xor (last_of (coordinates_of b)) 0x63) bytes ≡ map s_box bytes
unfolding s_box times inverse last_of coordinates_of
last_table = refl

pub last_at : (b : ℕ) → b < 256 → bit_xor (last_of (coordinates_of b)) 0x63 ≡ s_box b
last_at b lt = agree_at (λ b. bit_xor (last_of (coordinates_of b)) 0x63) s_box 256 b last_table lt

substituted_table : map (λ b. substituted_of (coordinates_of b)) bytes ≡ map (λ b. bit_xor (coordinates_of (s_box b)) (coordinates_of 0x63)) bytes
unfolding s_box times inverse substituted_of coordinates_of
substituted_table = refl

pub substituted_at : (b : ℕ) → b < 256 → substituted_of (coordinates_of b) ≡ bit_xor (coordinates_of (s_box b)) (coordinates_of 0x63)
substituted_at b lt =
    agree_at (λ b. substituted_of (coordinates_of b)) (λ b. bit_xor (coordinates_of (s_box b)) (coordinates_of 0x63)) 256 b substituted_table lt

doubled_table : map (λ b. doubled_of (coordinates_of b)) bytes ≡ map (λ b. bit_xor (coordinates_of (times 2 (s_box b))) (coordinates_of (times 2 0x63))) bytes
unfolding s_box times inverse doubled_of coordinates_of
doubled_table = refl

pub doubled_at : (b : ℕ) → b < 256 → doubled_of (coordinates_of b) ≡ bit_xor (coordinates_of (times 2 (s_box b))) (coordinates_of (times 2 0x63))
doubled_at b lt =
    agree_at (λ b. doubled_of (coordinates_of b)) (λ b. bit_xor (coordinates_of (times 2 (s_box b))) (coordinates_of (times 2 0x63))) 256 b doubled_table lt

-- ---- coordinates of a sum

-- over the pairs of halves
abbrev sums_of_entries : List ℕ → List ℕ
sums_of_entries table = map (λ n. bit_xor (entry_at table (n / 16)) (entry_at table (n % 16))) bytes

abbrev entries_of_sums : List ℕ → List ℕ
entries_of_sums table = map (λ n. entry_at table (bit_xor (n / 16) (n % 16))) bytes

half_at : (table : List ℕ) (i j : ℕ) → entries_of_sums table ≡ sums_of_entries table → i < 16 → j < 16
    → entry_at table (bit_xor i j) ≡ bit_xor (entry_at table i) (entry_at table j)
half_at table i j e fi fj =
    let high : (16 * i + j) / 16 ≡ i = omega arith in
    let low : (16 * i + j) % 16 ≡ j = omega arith in
    let inside : 16 * i + j < 256 = omega arith in
    sym (ap₂ (λ (x y : ℕ). entry_at table (bit_xor x y)) high low)
    ∙ agree_at (λ n. entry_at table (bit_xor (n / 16) (n % 16))) (λ n. bit_xor (entry_at table (n / 16)) (entry_at table (n % 16))) 256 (16 * i + j) e inside
    ∙ ap₂ (λ (x y : ℕ). bit_xor (entry_at table x) (entry_at table y)) high low

low_table : entries_of_sums LOW_COORDINATES ≡ sums_of_entries LOW_COORDINATES
low_table = refl

high_table : entries_of_sums HIGH_COORDINATES ≡ sums_of_entries HIGH_COORDINATES
high_table = refl

low_is : (b : ℕ) → low_of b ≡ b % 16
low_is b = and_mask b 4

pub coordinates_sum : (b c : ℕ) → b < 256 → c < 256 → coordinates_of (bit_xor b c) ≡ bit_xor (coordinates_of b) (coordinates_of c)
unfolding coordinates_of
coordinates_sum b c fb fc =
    let low : low_of (bit_xor b c) ≡ bit_xor (low_of b) (low_of c) = low_is (bit_xor b c) ∙ xor_mod b c 4 ∙ sym (ap₂ bit_xor (low_is b) (low_is c)) in
    let high : high_of (bit_xor b c) ≡ bit_xor (high_of b) (high_of c) = xor_shr b c 4 in
    let fl : low_of b < 16 = omega (arith, low_is b) in
    let gl : low_of c < 16 = omega (arith, low_is c) in
    ap₂ bit_xor
    (ap (entry_at LOW_COORDINATES) low ∙ half_at LOW_COORDINATES (low_of b) (low_of c) low_table fl gl)
    (ap (entry_at HIGH_COORDINATES) high ∙ half_at HIGH_COORDINATES (high_of b) (high_of c) high_table (omega arith) (omega arith))
    ∙ xor_middle (entry_at LOW_COORDINATES (low_of b)) (entry_at LOW_COORDINATES (low_of c)) (entry_at HIGH_COORDINATES (high_of b)) (entry_at HIGH_COORDINATES (high_of c))
