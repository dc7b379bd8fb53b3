-- The key schedule on words: its step, and the key that stands at its front.
use Rattle.std.proofs.Common.{◌≡◌, ℕ, ◌+◌, ◌<◌, ◌≤◌, List, [], ◌∷◌, ◌++◌, length, take, get_or, set, map, bit_xor, refl, sym, ap, ap₂, ◌∙◌, arith, add-one, zero-add}
use Rattle.std.proofs.lemmas.List.{length-set, take_more_set, get_or-take, get_or-map, length-take-le, take_all, map-append, ext_get_or}
use Rattle.std.proofs.lemmas.List.FromFn.{get_or-map-range_with_len}
use Rattle.aes128_core.specs.State.{xor_words, state_from, bytes_of}
use Rattle.aes128_core.specs.KeyExpansion.{key_words, key_expansion, word_change}
use Rattle.aes128_core.specs.Columns.{word_bytes, state_of_words, key_of}
use Rattle.aes128_core.proofs.ColumnLemmas.{word_bytes-xor}

-- the words up to n + 3 stand in w
at_front : (key w : List ℕ) (n k : ℕ) → length w ≡ 44 → n < 40 → map word_bytes (take (n + 4) w) ≡ key_words key n → k < n + 4
    → word_bytes (get_or w k 0) ≡ get_or (key_words key n) k []
at_front key w n k long lt e below =
    let inside : k < length (take (n + 4) w) = omega (arith, length-take-le (n + 4) w (omega arith)) in
    ap word_bytes (sym (get_or-take (n + 4) w k 0 below))
    ∙ sym (get_or-map word_bytes (take (n + 4) w) k 0 [] inside)
    ∙ ap (λ (t : List (List ℕ)). get_or t k []) e

key_words_suc : (key : List ℕ) (n : ℕ)
    → key_words key (n + 1) ≡ key_words key n ++ xor_words (get_or (key_words key n) n []) (word_change (n + 4) (get_or (key_words key n) (n + 3) [])) ∷ []
unfolding key_words
key_words_suc key n = rw add-one refl

pub key_words_more : (key w : List ℕ) (n change : ℕ) → length w ≡ 44 → n < 40
    → map word_bytes (take (n + 4) w) ≡ key_words key n
    → word_bytes change ≡ word_change (n + 4) (word_bytes (get_or w (n + 3) 0))
    → (length (set w (n + 4) (bit_xor (get_or w n 0) change)) ≡ 44)
    × (map word_bytes (take (n + 1 + 4) (set w (n + 4) (bit_xor (get_or w n 0) change))) ≡ key_words key (n + 1))
key_words_more key w n change long lt e is =
    let v : ℕ = bit_xor (get_or w n 0) change in
    let here : n + 4 < length w = omega arith in
    let next : n + 1 + 4 ≡ n + 4 + 1 = omega arith in
    let word : word_bytes v ≡ xor_words (get_or (key_words key n) n []) (word_change (n + 4) (get_or (key_words key n) (n + 3) []))
    = word_bytes-xor (get_or w n 0) change
    ∙ ap₂ xor_words (at_front key w n n long lt e (omega arith))
    (is ∙ ap (word_change (n + 4)) (at_front key w n (n + 3) long lt e (omega arith))) in (
      length-set w (n + 4) v ∙ long,
      ap (λ (k : ℕ). map word_bytes (take k (set w (n + 4) v))) next
          ∙ ap (map word_bytes) (take_more_set w (n + 4) v here)
          ∙ map-append word_bytes (take (n + 4) w) (v ∷ [])
          ∙ ap₂ (λ (xs : List (List ℕ)) (x : List ℕ). xs ++ x ∷ []) e word
          ∙ sym (key_words_suc key n),
    )

pub key_words_all : (key w : List ℕ) (n : ℕ) → length w ≡ 44 → n ≡ 40
    → map word_bytes (take (n + 4) w) ≡ key_words key n → map word_bytes w ≡ key_expansion key
key_words_all key w n long is e =
    let enough : length w ≤ n + 4 = omega arith in
    ap (map word_bytes) (sym (take_all (n + 4) w enough)) ∙ e ∙ ap (key_words key) is

-- ---- the key stands first in its words

-- 16 bytes, cut into columns and joined again
pub bytes_of-state_from : (key : List ℕ) → length key ≡ 16 → bytes_of (state_from key) ≡ key
bytes_of-state_from key long =
    ext_get_or 0 (bytes_of (state_from key)) key (sym long)
    (λ i inside. get_or-map-range_with_len (λ (k : ℕ). get_or key k 0) 0 16 i i 0 inside (zero-add i))

first_words : (key : List ℕ) → take 4 (key_expansion key) ≡ state_from key
unfolding key_words
first_words key = refl

-- column c of the key
column_at : (key w : List ℕ) (c : ℕ) → c < 4 → length w ≡ 44 → map word_bytes w ≡ key_expansion key
    → word_bytes (get_or w c 0) ≡ get_or (state_from key) c []
column_at key w c lt long e =
    let inside : c < length w = omega arith in
    sym (get_or-map word_bytes w c 0 [] inside)
    ∙ ap (λ (t : List (List ℕ)). get_or t c []) e
    ∙ sym (get_or-take 4 (key_expansion key) c [] lt)
    ∙ ap (λ (t : List (List ℕ)). get_or t c []) (first_words key)

pub key_of-key_expansion : (key w : List ℕ) → length key ≡ 16 → length w ≡ 44
    → map word_bytes w ≡ key_expansion key → key_of w ≡ key
key_of-key_expansion key w long words e =
    let k0 = column_at key w 0 (omega arith) words e in
    let k1 = column_at key w 1 (omega arith) words e in
    let k2 = column_at key w 2 (omega arith) words e in
    let k3 = column_at key w 3 (omega arith) words e in
    let front : state_of_words w ≡ state_from key = cc in
    ap bytes_of front ∙ bytes_of-state_from key long
