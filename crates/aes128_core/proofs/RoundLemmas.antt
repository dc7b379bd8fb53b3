-- Rounds on words, against rounds on states.
use Rattle.std.proofs.Common.{◌≡◌, ℕ, suc, ◌+◌, ◌*◌, ◌<◌, List, [], ◌∷◌, get_or, length, map, bit_xor, refl, sym, ap, ◌∙◌, arith}
use Rattle.std.proofs.lemmas.List.{get_or-map}
use Rattle.aes128_core.specs.SBox.{s_box}
use Rattle.aes128_core.specs.State.{xor_words, state_from, bytes_of}
use Rattle.aes128_core.specs.Aes128.{cipher}
use Rattle.aes128_core.specs.KeyExpansion.{key_expansion}
use Rattle.aes128_core.specs.Rounds.{sub_bytes, shift_rows, mix_column, mix_columns, add_round_key, rounds}
use Rattle.aes128_core.specs.Columns.{word_bytes, state_of_words, word_from}
use Rattle.aes128_core.proofs.ColumnLemmas.{word_bytes-xor}

-- the key's word i, as bytes
pub word_at : (w : List ℕ) (i j : ℕ) → i ≡ j → i < length w → get_or (map word_bytes w) j [] ≡ word_bytes (get_or w i 0)
word_at w i j e inside = ap (λ (k : ℕ). get_or (map word_bytes w) k []) (sym e) ∙ get_or-map word_bytes w i 0 [] inside

-- a column after SubBytes and ShiftRows: a byte of each of four columns
abbrev pub turned : List ℕ → List ℕ → List ℕ → List ℕ → List ℕ
turned a b c d = s_box (get_or a 0 0) ∷ s_box (get_or b 1 0) ∷ s_box (get_or c 2 0) ∷ s_box (get_or d 3 0) ∷ []

pub round_is : (w s : List ℕ) (n r0 r1 r2 r3 : ℕ) (a b c d : List ℕ) → 4 * n + 3 < length w
    → a ≡ word_bytes (get_or s 0 0) → b ≡ word_bytes (get_or s 1 0)
    → c ≡ word_bytes (get_or s 2 0) → d ≡ word_bytes (get_or s 3 0)
    → word_bytes r0 ≡ xor_words (mix_column (turned a b c d)) (word_bytes (get_or w (4 * n) 0))
    → word_bytes r1 ≡ xor_words (mix_column (turned b c d a)) (word_bytes (get_or w (4 * n + 1) 0))
    → word_bytes r2 ≡ xor_words (mix_column (turned c d a b)) (word_bytes (get_or w (4 * n + 2) 0))
    → word_bytes r3 ≡ xor_words (mix_column (turned d a b c)) (word_bytes (get_or w (4 * n + 3) 0))
    → state_of_words (r0 ∷ r1 ∷ r2 ∷ r3 ∷ [])
    ≡ add_round_key (map word_bytes w) n (mix_columns (shift_rows (sub_bytes (state_of_words s))))
unfolding add_round_key mix_columns shift_rows sub_bytes
round_is w s n r0 r1 r2 r3 a b c d inside ea eb ec ed e0 e1 e2 e3 =
    let k0 = word_at w (4 * n) (4 * n + 0) (omega arith) (omega arith) in
    let k1 = word_at w (4 * n + 1) (4 * n + 1) refl (omega arith) in
    let k2 = word_at w (4 * n + 2) (4 * n + 2) refl (omega arith) in
    let k3 = word_at w (4 * n + 3) (4 * n + 3) refl (omega arith) in
    cc

-- the same without the matrix, for the last round
pub last_round_is : (w s : List ℕ) (r0 r1 r2 r3 : ℕ) (a b c d : List ℕ) → 43 < length w
    → a ≡ word_bytes (get_or s 0 0) → b ≡ word_bytes (get_or s 1 0)
    → c ≡ word_bytes (get_or s 2 0) → d ≡ word_bytes (get_or s 3 0)
    → word_bytes r0 ≡ xor_words (turned a b c d) (word_bytes (get_or w 40 0))
    → word_bytes r1 ≡ xor_words (turned b c d a) (word_bytes (get_or w 41 0))
    → word_bytes r2 ≡ xor_words (turned c d a b) (word_bytes (get_or w 42 0))
    → word_bytes r3 ≡ xor_words (turned d a b c) (word_bytes (get_or w 43 0))
    → state_of_words (r0 ∷ r1 ∷ r2 ∷ r3 ∷ [])
    ≡ add_round_key (map word_bytes w) 10 (shift_rows (sub_bytes (state_of_words s)))
unfolding add_round_key shift_rows sub_bytes
last_round_is w s r0 r1 r2 r3 a b c d inside ea eb ec ed e0 e1 e2 e3 =
    let k0 = word_at w 40 40 refl (omega arith) in
    let k1 = word_at w 41 41 refl (omega arith) in
    let k2 = word_at w 42 42 refl (omega arith) in
    let k3 = word_at w 43 43 refl (omega arith) in
    cc

pub first_round_is : (w block : List ℕ) (x0 x1 x2 x3 : ℕ) → 43 < length w
    → word_bytes x0 ≡ word_from block 0 → word_bytes x1 ≡ word_from block 4
    → word_bytes x2 ≡ word_from block 8 → word_bytes x3 ≡ word_from block 12
    → state_of_words (bit_xor x0 (get_or w 0 0) ∷ bit_xor x1 (get_or w 1 0) ∷ bit_xor x2 (get_or w 2 0) ∷ bit_xor x3 (get_or w 3 0) ∷ [])
    ≡ add_round_key (map word_bytes w) 0 (state_from block)
unfolding add_round_key
first_round_is w block x0 x1 x2 x3 inside e0 e1 e2 e3 =
    let k0 = word_at w 0 0 refl (omega arith) in
    let k1 = word_at w 1 1 refl (omega arith) in
    let k2 = word_at w 2 2 refl (omega arith) in
    let k3 = word_at w 3 3 refl (omega arith) in
    let s0 = word_bytes-xor x0 (get_or w 0 0) in
    let s1 = word_bytes-xor x1 (get_or w 1 0) in
    let s2 = word_bytes-xor x2 (get_or w 2 0) in
    let s3 = word_bytes-xor x3 (get_or w 3 0) in
    cc

-- ---- round after round

pub no_round : (w s a : List (List ℕ)) → a ≡ add_round_key w 0 s → a ≡ rounds w s 0
unfolding rounds
no_round w s a made = made

pub round_more : (w s : List (List ℕ)) (n : ℕ) (a b : List (List ℕ)) → a ≡ rounds w s n
    → b ≡ add_round_key w (n + 1) (mix_columns (shift_rows (sub_bytes a))) → b ≡ rounds w s (suc n)
unfolding rounds
round_more w s n a b is made = made ∙ ap (λ (x : List (List ℕ)). add_round_key w (n + 1) (mix_columns (shift_rows (sub_bytes x)))) is

pub last_round_more : (key block : List ℕ) (w a b : List (List ℕ)) → w ≡ key_expansion key → a ≡ rounds w (state_from block) 9
    → b ≡ add_round_key w 10 (shift_rows (sub_bytes a)) → bytes_of b ≡ cipher key block
unfolding cipher
last_round_more key block w a b words is made =
    ap bytes_of (made ∙ ap (λ (x : List (List ℕ)). add_round_key w 10 (shift_rows (sub_bytes x))) is)
    ∙ ap (λ (v : List (List ℕ)). bytes_of (add_round_key v 10 (shift_rows (sub_bytes (rounds v (state_from block) 9))))) words
