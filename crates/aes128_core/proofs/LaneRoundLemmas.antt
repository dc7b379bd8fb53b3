-- Rounds on 16 lanes in coordinates, against rounds on states.
use Rattle.std.proofs.Common.{◌≡◌, ℕ, suc, ◌+◌, ◌*◌, ◌<◌, List, [], ◌∷◌, get_or, length, map, bit_xor, refl, sym, ap, ap₂, ◌∙◌, subst, arith}
use Rattle.std.proofs.lemmas.Nat.{xor_of_8}
use Rattle.std.proofs.lemmas.Simd.{Each1-get_or}
use lib.Lanes.{Each1}
use lib.Bits.{xor_assoc, xor_comm}
use Rattle.aes128_core.specs.Aes128.{cipher}
use Rattle.aes128_core.specs.KeyExpansion.{key_words, key_expansion}
use Rattle.aes128_core.specs.declared.lane_tables.TheConstants.{ORDER_0, ORDER_1, ORDER_2, ORDER_3, BELOW_0, BELOW_1, BELOW_2, BELOW_3, ABOVE_0, ABOVE_1, ABOVE_2, ABOVE_3}
use Rattle.aes128_core.specs.Field.{times}
use Rattle.aes128_core.specs.SBox.{s_box}
use Rattle.aes128_core.specs.State.{AreBytes, state_from, bytes_of, at}
use Rattle.aes128_core.specs.Rounds.{sub_bytes, shift_rows, mix_column, mix_columns, add_round_key, rounds}
use Rattle.aes128_core.specs.Lanes.{coordinates_of, substituted_of, doubled_of, last_of, moved}
use Rattle.aes128_core.specs.LaneRounds.{round_lanes, last_round_lanes, twice_and_next, xor_lanes}
use Rattle.aes128_core.specs.RoundKeys.{round_key, inner_key, last_key, inner_keys}
use Rattle.aes128_core.proofs.XorLemmas.{xor_twice, xor_twice_each, xor_turn, mixed_sum}
use Rattle.aes128_core.proofs.CipherBytes.{AreWords, s_box_lt, words_are}
use Rattle.aes128_core.proofs.KeyLemmas.{bytes_of-state_from}
use Rattle.aes128_core.proofs.LaneTableRules.{substituted_at, doubled_at, last_at, double_lt, one_at, three_at, coordinates_sum}

-- a lane that holds a byte in coordinates
abbrev IsLane : ℕ → ℕ → Type 0
IsLane lane b = (lane ≡ coordinates_of b) × (b < 256)

-- lanes that hold bytes in coordinates
record Lanes (xs bs : List ℕ) : Type 0 where
  is : xs ≡ map coordinates_of bs
  small : Each1 (λ b. b < 256) bs

no_lanes : Lanes [] []
no_lanes = record { is = refl; small = tt }

more : (x b : ℕ) (xs bs : List ℕ) → IsLane x b → Lanes xs bs → Lanes (x ∷ xs) (b ∷ bs)
more x b xs bs lane rest = record { is = ap₂ (λ (y : ℕ) (ys : List ℕ). y ∷ ys) lane.0 rest.is; small = (lane.1, rest.small) }

-- what a round makes of the lanes of the four bytes of a column, from the row of a on, and a byte of the key
abbrev mixed_lane : ℕ → ℕ → ℕ → ℕ → ℕ → ℕ
mixed_lane a b c d k =
    bit_xor
    (bit_xor (bit_xor (substituted_of (coordinates_of d)) (coordinates_of (bit_xor k 0x63)))
    (bit_xor (doubled_of (coordinates_of a)) (substituted_of (coordinates_of b))))
    (bit_xor (doubled_of (coordinates_of b)) (substituted_of (coordinates_of c)))

coordinates_of_sums : (p q q2 r s k : ℕ) → p < 256 → q < 256 → q2 < 256 → r < 256 → s < 256 → k < 256
    → coordinates_of (bit_xor (bit_xor (bit_xor s k) (bit_xor p q)) (bit_xor q2 r))
    ≡ bit_xor (bit_xor (bit_xor (coordinates_of s) (coordinates_of k)) (bit_xor (coordinates_of p) (coordinates_of q))) (bit_xor (coordinates_of q2) (coordinates_of r))
coordinates_of_sums p q q2 r s k fp fq fq2 fr fs fk =
    coordinates_sum (bit_xor (bit_xor s k) (bit_xor p q)) (bit_xor q2 r) (xor_of_8 (bit_xor s k) (bit_xor p q) (xor_of_8 s k fs fk) (xor_of_8 p q fp fq)) (xor_of_8 q2 r fq2 fr)
    ∙ ap₂ bit_xor
    (coordinates_sum (bit_xor s k) (bit_xor p q) (xor_of_8 s k fs fk) (xor_of_8 p q fp fq)
    ∙ ap₂ bit_xor (coordinates_sum s k fs fk) (coordinates_sum p q fp fq))
    (coordinates_sum q2 r fq2 fr)

-- the constants drop out
lane_sum : (p q q2 r s k m n : ℕ)
    → bit_xor (bit_xor (bit_xor (bit_xor s m) (bit_xor k m)) (bit_xor (bit_xor p n) (bit_xor q m))) (bit_xor (bit_xor q2 n) (bit_xor r m))
    ≡ bit_xor (bit_xor (bit_xor s k) (bit_xor p q)) (bit_xor q2 r)
lane_sum p q q2 r s k m n =
    xor_assoc (bit_xor (bit_xor s m) (bit_xor k m)) (bit_xor (bit_xor p n) (bit_xor q m)) (bit_xor (bit_xor q2 n) (bit_xor r m))
    ∙ ap₂ bit_xor (xor_twice s k m) (xor_twice_each p q q2 r n m)
    ∙ sym (xor_assoc (bit_xor s k) (bit_xor p q) (bit_xor q2 r))

-- MixColumns' sum for the row of a
abbrev mixed_byte : ℕ → ℕ → ℕ → ℕ → ℕ → ℕ
mixed_byte a b c d k =
    bit_xor (bit_xor (bit_xor (bit_xor (times 2 (s_box a)) (times 3 (s_box b))) (times 1 (s_box c))) (times 1 (s_box d))) k

mixed_lane_is : (a b c d k : ℕ) → a < 256 → b < 256 → c < 256 → d < 256 → k < 256 → IsLane (mixed_lane a b c d k) (mixed_byte a b c d k)
mixed_lane_is a b c d k fa fb fc fd fk =
    let p : ℕ = times 2 (s_box a) in
    let q : ℕ = s_box b in
    let q2 : ℕ = times 2 (s_box b) in
    let r : ℕ = s_box c in
    let s : ℕ = s_box d in
    let sa : s_box a < 256 = s_box_lt a in
    let fq : q < 256 = s_box_lt b in
    let fr : r < 256 = s_box_lt c in
    let fs : s < 256 = s_box_lt d in
    let fp : p < 256 = double_lt (s_box a) sa in
    let fq2 : q2 < 256 = double_lt q fq in
    let m : ℕ = coordinates_of 0x63 in
    let n : ℕ = coordinates_of (times 2 0x63) in
    let sum : ℕ = bit_xor (bit_xor (bit_xor s k) (bit_xor p q)) (bit_xor q2 r) in
    let is : mixed_byte a b c d k ≡ sum
    = ap₂ (λ (t u : ℕ). bit_xor (bit_xor (bit_xor (bit_xor p t) u) (times 1 s)) k) (three_at q fq) (one_at r fr)
    ∙ ap (λ (t : ℕ). bit_xor (bit_xor (bit_xor (bit_xor p (bit_xor q2 q)) r) t) k) (one_at s fs)
    ∙ mixed_sum p q q2 r s k in
    let small : sum < 256 = xor_of_8 _ _ (xor_of_8 _ _ (xor_of_8 s k fs fk) (xor_of_8 p q fp fq)) (xor_of_8 q2 r fq2 fr) in
    let lanes : mixed_lane a b c d k
    ≡ bit_xor (bit_xor (bit_xor (bit_xor (coordinates_of s) m) (bit_xor (coordinates_of k) m)) (bit_xor (bit_xor (coordinates_of p) n) (bit_xor (coordinates_of q) m))) (bit_xor (bit_xor (coordinates_of q2) n) (bit_xor (coordinates_of r) m))
    = ap₂ bit_xor
    (ap₂ bit_xor
    (ap₂ bit_xor (substituted_at d fd) (coordinates_sum k 0x63 fk (omega arith)))
    (ap₂ bit_xor (doubled_at a fa) (substituted_at b fb)))
    (ap₂ bit_xor (doubled_at b fb) (substituted_at c fc)) in
    let made : mixed_lane a b c d k ≡ coordinates_of sum
    = lanes
    ∙ lane_sum (coordinates_of p) (coordinates_of q) (coordinates_of q2) (coordinates_of r) (coordinates_of s) (coordinates_of k) m n
    ∙ sym (coordinates_of_sums p q q2 r s k fp fq fq2 fr fs fk) in
    subst (IsLane (mixed_lane a b c d k)) (sym is) (made, small)

-- a column
abbrev mixed : ℕ → ℕ → ℕ → ℕ → List ℕ
mixed a b c d = mix_column (s_box a ∷ s_box b ∷ s_box c ∷ s_box d ∷ [])

column_is : (a b c d k0 k1 k2 k3 : ℕ) → a < 256 → b < 256 → c < 256 → d < 256 → k0 < 256 → k1 < 256 → k2 < 256 → k3 < 256
    → (xs bs : List ℕ) → Lanes xs bs
    → Lanes
    (mixed_lane a b c d k0 ∷ mixed_lane b c d a k1 ∷ mixed_lane c d a b k2 ∷ mixed_lane d a b c k3 ∷ xs)
    (bit_xor (get_or (mixed a b c d) 0 0) k0 ∷ bit_xor (get_or (mixed a b c d) 1 0) k1 ∷ bit_xor (get_or (mixed a b c d) 2 0) k2 ∷ bit_xor (get_or (mixed a b c d) 3 0) k3 ∷ bs)
unfolding mix_column
column_is a b c d k0 k1 k2 k3 fa fb fc fd f0 f1 f2 f3 xs bs rest =
    let one : ℕ → ℕ = λ x. times 1 (s_box x) in
    let two : ℕ → ℕ = λ x. times 2 (s_box x) in
    let three : ℕ → ℕ = λ x. times 3 (s_box x) in
    let row1 : bit_xor (bit_xor (bit_xor (one a) (two b)) (three c)) (one d) ≡ bit_xor (bit_xor (bit_xor (two b) (three c)) (one d)) (one a)
    = xor_turn (one a) (two b) (three c) (one d) in
    let row2 : bit_xor (bit_xor (bit_xor (one a) (one b)) (two c)) (three d) ≡ bit_xor (bit_xor (bit_xor (two c) (three d)) (one a)) (one b)
    = xor_turn (one a) (one b) (two c) (three d) ∙ xor_turn (one b) (two c) (three d) (one a) in
    let row3 : bit_xor (bit_xor (bit_xor (three a) (one b)) (one c)) (two d) ≡ bit_xor (bit_xor (bit_xor (two d) (three a)) (one b)) (one c)
    = sym (xor_turn (two d) (three a) (one b) (one c)) in
    more _ _ _ _ (mixed_lane_is a b c d k0 fa fb fc fd f0)
    (more _ _ _ _ (subst (λ (x : ℕ). IsLane (mixed_lane b c d a k1) (bit_xor x k1)) (sym row1) (mixed_lane_is b c d a k1 fb fc fd fa f1))
    (more _ _ _ _ (subst (λ (x : ℕ). IsLane (mixed_lane c d a b k2) (bit_xor x k2)) (sym row2) (mixed_lane_is c d a b k2 fc fd fa fb f2))
    (more _ _ _ _ (subst (λ (x : ℕ). IsLane (mixed_lane d a b c k3) (bit_xor x k3)) (sym row3) (mixed_lane_is d a b c k3 fd fa fb fc f3))
    rest)))

-- ---- the parts of a round

pub round_lanes_of : (below above x key plain doubled a e t : List ℕ) → plain ≡ map substituted_of x → doubled ≡ map doubled_of x
    → a ≡ moved plain below → e ≡ moved plain above → t ≡ moved (xor_lanes doubled a) below
    → xor_lanes (xor_lanes (xor_lanes e key) (xor_lanes doubled a)) t ≡ round_lanes below above x key
unfolding round_lanes
round_lanes_of below above x key plain doubled a e t is_plain is_doubled is_a is_e is_t =
    let sum : xor_lanes doubled a ≡ twice_and_next below x
    = ap₂ xor_lanes is_doubled (is_a ∙ ap (λ (v : List ℕ). moved v below) is_plain) in
    ap₂ xor_lanes
    (ap₂ xor_lanes (ap (λ (v : List ℕ). xor_lanes v key) (is_e ∙ ap (λ (v : List ℕ). moved v above) is_plain)) sum)
    (is_t ∙ ap (λ (v : List ℕ). moved v below) sum)

-- ---- a round

-- the lanes of a column after a round, and those after it
abbrev column_lanes : List (List ℕ) → ℕ → ℕ → ℕ → ℕ → ℕ → List ℕ → List ℕ
column_lanes w i a b c d rest =
    mixed_lane a b c d (at w 0 i) ∷ mixed_lane b c d a (at w 1 i) ∷ mixed_lane c d a b (at w 2 i) ∷ mixed_lane d a b c (at w 3 i) ∷ rest

-- the lanes of the state s after the round n, in the order of the bytes
abbrev state_lanes : List (List ℕ) → ℕ → List (List ℕ) → List ℕ
state_lanes w n s =
    column_lanes w (4 * n + 0) (at s 0 0) (at s 1 1) (at s 2 2) (at s 3 3)
    (column_lanes w (4 * n + 1) (at s 0 1) (at s 1 2) (at s 2 3) (at s 3 0)
    (column_lanes w (4 * n + 2) (at s 0 2) (at s 1 3) (at s 2 0) (at s 3 1)
    (column_lanes w (4 * n + 3) (at s 0 3) (at s 1 0) (at s 2 1) (at s 3 2) [])))

round_is : (w s : List (List ℕ)) (n : ℕ) → AreWords w → Each1 (λ b. b < 256) (bytes_of s)
    → Lanes (state_lanes w n s) (bytes_of (add_round_key w n (mix_columns (shift_rows (sub_bytes s)))))
unfolding add_round_key mix_columns shift_rows sub_bytes
round_is w s n key small =
    let f : (i : ℕ) → i < 16 → get_or (bytes_of s) i 0 < 256 = λ i lt. Each1-get_or (λ b. b < 256) (bytes_of s) i 0 lt small in
    column_is (at s 0 0) (at s 1 1) (at s 2 2) (at s 3 3) (at w 0 (4 * n + 0)) (at w 1 (4 * n + 0)) (at w 2 (4 * n + 0)) (at w 3 (4 * n + 0))
    (f 0 (omega arith)) (f 5 (omega arith)) (f 10 (omega arith)) (f 15 (omega arith)) (key (4 * n + 0) 0) (key (4 * n + 0) 1) (key (4 * n + 0) 2) (key (4 * n + 0) 3) _ _
    (column_is (at s 0 1) (at s 1 2) (at s 2 3) (at s 3 0) (at w 0 (4 * n + 1)) (at w 1 (4 * n + 1)) (at w 2 (4 * n + 1)) (at w 3 (4 * n + 1))
    (f 4 (omega arith)) (f 9 (omega arith)) (f 14 (omega arith)) (f 3 (omega arith)) (key (4 * n + 1) 0) (key (4 * n + 1) 1) (key (4 * n + 1) 2) (key (4 * n + 1) 3) _ _
    (column_is (at s 0 2) (at s 1 3) (at s 2 0) (at s 3 1) (at w 0 (4 * n + 2)) (at w 1 (4 * n + 2)) (at w 2 (4 * n + 2)) (at w 3 (4 * n + 2))
    (f 8 (omega arith)) (f 13 (omega arith)) (f 2 (omega arith)) (f 7 (omega arith)) (key (4 * n + 2) 0) (key (4 * n + 2) 1) (key (4 * n + 2) 2) (key (4 * n + 2) 3) _ _
    (column_is (at s 0 3) (at s 1 0) (at s 2 1) (at s 3 2) (at w 0 (4 * n + 3)) (at w 1 (4 * n + 3)) (at w 2 (4 * n + 3)) (at w 3 (4 * n + 3))
    (f 12 (omega arith)) (f 1 (omega arith)) (f 6 (omega arith)) (f 11 (omega arith)) (key (4 * n + 3) 0) (key (4 * n + 3) 1) (key (4 * n + 3) 2) (key (4 * n + 3) 3) [] []
    no_lanes)))

-- lanes that hold the bytes of a state in this order
record Holds (order x : List ℕ) (s : List (List ℕ)) : Type 0 where
  is : x ≡ map coordinates_of (moved (bytes_of s) order)
  small : Each1 (λ b. b < 256) (bytes_of s)

-- a round, from one order into the next, where its lanes are those of the state after it in that order
round_more : (before order below above : List ℕ) → ((w s : List (List ℕ)) (n : ℕ) → round_lanes below above (map coordinates_of (moved (bytes_of s) before)) (inner_key w n order) ≡ moved (state_lanes w n s) order)
    → ((t : List (List ℕ)) → moved (map coordinates_of (bytes_of t)) order ≡ map coordinates_of (moved (bytes_of t) order))
    → (w s : List (List ℕ)) (n : ℕ) (x key y : List ℕ) → AreWords w → Holds before x (rounds w s n)
    → key ≡ inner_key w (n + 1) order → y ≡ round_lanes below above x key → Holds order y (rounds w s (suc n))
unfolding rounds
round_more before order below above in_order of_bytes w s n x key y bytes holds is_key made =
    let next = round_is w (rounds w s n) (n + 1) bytes holds.small in
    record {
      is = made ∙ ap₂ (round_lanes below above) holds.is is_key ∙ in_order w (rounds w s n) (n + 1)
          ∙ ap (λ (v : List ℕ). moved v order) next.is
          ∙ of_bytes (add_round_key w (n + 1) (mix_columns (shift_rows (sub_bytes (rounds w s n)))));
      small = next.small;
    }

into_0 : (w s : List (List ℕ)) (n : ℕ) (x key y : List ℕ) → AreWords w → Holds ORDER_3 x (rounds w s n)
    → key ≡ inner_key w (n + 1) ORDER_0 → y ≡ round_lanes BELOW_0 ABOVE_0 x key → Holds ORDER_0 y (rounds w s (suc n))
unfolding round_lanes
into_0 = round_more ORDER_3 ORDER_0 BELOW_0 ABOVE_0 (λ w s n. refl) (λ t. refl)

into_1 : (w s : List (List ℕ)) (n : ℕ) (x key y : List ℕ) → AreWords w → Holds ORDER_0 x (rounds w s n)
    → key ≡ inner_key w (n + 1) ORDER_1 → y ≡ round_lanes BELOW_1 ABOVE_1 x key → Holds ORDER_1 y (rounds w s (suc n))
unfolding round_lanes
into_1 = round_more ORDER_0 ORDER_1 BELOW_1 ABOVE_1 (λ w s n. refl) (λ t. refl)

into_2 : (w s : List (List ℕ)) (n : ℕ) (x key y : List ℕ) → AreWords w → Holds ORDER_1 x (rounds w s n)
    → key ≡ inner_key w (n + 1) ORDER_2 → y ≡ round_lanes BELOW_2 ABOVE_2 x key → Holds ORDER_2 y (rounds w s (suc n))
unfolding round_lanes
into_2 = round_more ORDER_1 ORDER_2 BELOW_2 ABOVE_2 (λ w s n. refl) (λ t. refl)

into_3 : (w s : List (List ℕ)) (n : ℕ) (x key y : List ℕ) → AreWords w → Holds ORDER_2 x (rounds w s n)
    → key ≡ inner_key w (n + 1) ORDER_3 → y ≡ round_lanes BELOW_3 ABOVE_3 x key → Holds ORDER_3 y (rounds w s (suc n))
unfolding round_lanes
into_3 = round_more ORDER_2 ORDER_3 BELOW_3 ABOVE_3 (λ w s n. refl) (λ t. refl)

-- ---- the last round

last_lane : (b k : ℕ) → b < 256 → bit_xor (last_of (coordinates_of b)) (bit_xor k 0x63) ≡ bit_xor (s_box b) k
last_lane b k lt =
    ap (bit_xor (last_of (coordinates_of b))) (xor_comm k 0x63)
    ∙ sym (xor_assoc (last_of (coordinates_of b)) 0x63 k)
    ∙ ap (λ (x : ℕ). bit_xor x k) (last_at b lt)

next : {a b : ℕ} {xs ys : List ℕ} → a ≡ b → xs ≡ ys → a ∷ xs ≡ b ∷ ys
next e f = ap₂ (λ (y : ℕ) (ys : List ℕ). y ∷ ys) e f

last_column : (a b c d k0 k1 k2 k3 : ℕ) (xs ys : List ℕ) → a < 256 → b < 256 → c < 256 → d < 256 → xs ≡ ys
    → bit_xor (last_of (coordinates_of a)) (bit_xor k0 0x63) ∷ bit_xor (last_of (coordinates_of b)) (bit_xor k1 0x63)
    ∷ bit_xor (last_of (coordinates_of c)) (bit_xor k2 0x63) ∷ bit_xor (last_of (coordinates_of d)) (bit_xor k3 0x63) ∷ xs
    ≡ bit_xor (s_box a) k0 ∷ bit_xor (s_box b) k1 ∷ bit_xor (s_box c) k2 ∷ bit_xor (s_box d) k3 ∷ ys
last_column a b c d k0 k1 k2 k3 xs ys fa fb fc fd rest =
    next (last_lane a k0 fa) (next (last_lane b k1 fb) (next (last_lane c k2 fc) (next (last_lane d k3 fd) rest)))

last_round_is : (w s : List (List ℕ)) → Each1 (λ b. b < 256) (bytes_of s)
    → last_round_lanes (map coordinates_of (moved (bytes_of s) ORDER_1)) (last_key w) ≡ bytes_of (add_round_key w 10 (shift_rows (sub_bytes s)))
unfolding last_round_lanes add_round_key shift_rows sub_bytes
last_round_is w s small =
    let f : (i : ℕ) → i < 16 → get_or (bytes_of s) i 0 < 256 = λ i lt. Each1-get_or (λ b. b < 256) (bytes_of s) i 0 lt small in
    last_column (at s 0 0) (at s 1 1) (at s 2 2) (at s 3 3) (at w 0 40) (at w 1 40) (at w 2 40) (at w 3 40) _ _
    (f 0 (omega arith)) (f 5 (omega arith)) (f 10 (omega arith)) (f 15 (omega arith))
    (last_column (at s 0 1) (at s 1 2) (at s 2 3) (at s 3 0) (at w 0 41) (at w 1 41) (at w 2 41) (at w 3 41) _ _
    (f 4 (omega arith)) (f 9 (omega arith)) (f 14 (omega arith)) (f 3 (omega arith))
    (last_column (at s 0 2) (at s 1 3) (at s 2 0) (at s 3 1) (at w 0 42) (at w 1 42) (at w 2 42) (at w 3 42) _ _
    (f 8 (omega arith)) (f 13 (omega arith)) (f 2 (omega arith)) (f 7 (omega arith))
    (last_column (at s 0 3) (at s 1 0) (at s 2 1) (at s 3 2) (at w 0 43) (at w 1 43) (at w 2 43) (at w 3 43) [] []
    (f 12 (omega arith)) (f 1 (omega arith)) (f 6 (omega arith)) (f 11 (omega arith))
    refl)))

last_round_more : (key block x k y : List ℕ) → Holds ORDER_1 x (rounds (key_expansion key) (state_from block) 9)
    → k ≡ last_key (key_expansion key) → y ≡ last_round_lanes x k → y ≡ cipher key block
unfolding cipher
last_round_more key block x k y holds is_key made =
    made ∙ ap₂ last_round_lanes holds.is is_key ∙ last_round_is (key_expansion key) (rounds (key_expansion key) (state_from block) 9) holds.small

-- ---- the first round

first_key_words : (key : List ℕ) → round_key (key_expansion key) 0 ≡ bytes_of (state_from key)
unfolding key_words
first_key_words key = refl

-- the key of round 0 is the key itself
first_key : (key : List ℕ) → length key ≡ 16 → round_key (key_expansion key) 0 ≡ key
first_key key long = first_key_words key ∙ bytes_of-state_from key long

first_round_is : (key block x : List ℕ) → length key ≡ 16 → length block ≡ 16 → AreBytes block
    → AreWords (key_expansion key) → x ≡ map coordinates_of (xor_lanes block key)
    → Holds ORDER_0 x (rounds (key_expansion key) (state_from block) 0)
unfolding rounds add_round_key
first_round_is key block x long_key long of-block of-words made =
    let small : (i r c : ℕ) → bit_xor (get_or block i 0) (at (key_expansion key) r c) < 256
    = λ i r c. xor_of_8 (get_or block i 0) (at (key_expansion key) r c) (of-block i) (of-words c r) in
    record {
      is = made ∙ ap (map coordinates_of) (sym (ap₂ xor_lanes (bytes_of-state_from block long) (first_key key long_key)));
      small = (
        small 0 0 0,
        (
          small 1 1 0,
          (
            small 2 2 0,
            (
              small 3 3 0,
              (
                small 4 0 1,
                (
                  small 5 1 1,
                  (
                    small 6 2 1,
                    (
                      small 7 3 1,
                      (small 8 0 2, (small 9 1 2, (small 10 2 2, (small 11 3 2, (small 12 0 3, (small 13 1 3, (small 14 2 3, (small 15 3 3, tt)))))))),
                    ),
                  ),
                ),
              ),
            ),
          ),
        ),
      );
    }

-- ---- all rounds

pub encrypts : (key first : List ℕ) (keys : List (List ℕ)) (last block x x1 x2 x3 x4 x5 x6 x7 x8 x9 y : List ℕ)
    → length first ≡ 16 → length block ≡ 16 → AreBytes block
    → keys ≡ inner_keys (key_expansion first) → last ≡ last_key (key_expansion first) → AreBytes first → first ≡ key
    → x ≡ map coordinates_of (xor_lanes block first)
    → x1 ≡ round_lanes BELOW_1 ABOVE_1 x (get_or keys 0 [])
    → x2 ≡ round_lanes BELOW_2 ABOVE_2 x1 (get_or keys 1 [])
    → x3 ≡ round_lanes BELOW_3 ABOVE_3 x2 (get_or keys 2 [])
    → x4 ≡ round_lanes BELOW_0 ABOVE_0 x3 (get_or keys 3 [])
    → x5 ≡ round_lanes BELOW_1 ABOVE_1 x4 (get_or keys 4 [])
    → x6 ≡ round_lanes BELOW_2 ABOVE_2 x5 (get_or keys 5 [])
    → x7 ≡ round_lanes BELOW_3 ABOVE_3 x6 (get_or keys 6 [])
    → x8 ≡ round_lanes BELOW_0 ABOVE_0 x7 (get_or keys 7 [])
    → x9 ≡ round_lanes BELOW_1 ABOVE_1 x8 (get_or keys 8 [])
    → y ≡ last_round_lanes x9 last
    → y ≡ cipher key block
encrypts key first keys last block x x1 x2 x3 x4 x5 x6 x7 x8 x9 y long_key long of-block kept is_last of-key is_key m0 m1 m2 m3 m4 m5 m6 m7 m8 m9 made =
    let w : List (List ℕ) = key_expansion first in
    let s : List (List ℕ) = state_from block in
    let bytes : AreWords w = words_are first 40 (omega arith) of-key in
    let held : (n : ℕ) → get_or keys n [] ≡ get_or (inner_keys w) n [] = λ n. ap (λ (t : List (List ℕ)). get_or t n []) kept in
    let h0 = first_round_is first block x long_key long of-block bytes m0 in
    let h1 = into_1 w s 0 x (get_or keys 0 []) x1 bytes h0 (held 0) m1 in
    let h2 = into_2 w s 1 x1 (get_or keys 1 []) x2 bytes h1 (held 1) m2 in
    let h3 = into_3 w s 2 x2 (get_or keys 2 []) x3 bytes h2 (held 2) m3 in
    let h4 = into_0 w s 3 x3 (get_or keys 3 []) x4 bytes h3 (held 3) m4 in
    let h5 = into_1 w s 4 x4 (get_or keys 4 []) x5 bytes h4 (held 4) m5 in
    let h6 = into_2 w s 5 x5 (get_or keys 5 []) x6 bytes h5 (held 5) m6 in
    let h7 = into_3 w s 6 x6 (get_or keys 6 []) x7 bytes h6 (held 6) m7 in
    let h8 = into_0 w s 7 x7 (get_or keys 7 []) x8 bytes h7 (held 7) m8 in
    let h9 = into_1 w s 8 x8 (get_or keys 8 []) x9 bytes h8 (held 8) m9 in
    last_round_more first block x9 last y h9 is_last made ∙ ap (λ (k : List ℕ). cipher k block) is_key
