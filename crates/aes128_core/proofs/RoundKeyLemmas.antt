-- The round keys that are kept, from the words of the key schedule.
use Rattle.std.proofs.Common.{◌≡◌, ℕ, ◌+◌, ◌*◌, ◌<◌, List, [], ◌∷◌, get_or, length, map, refl, ap, ap₂, ◌∙◌, arith}
use Rattle.aes128_core.specs.Columns.{word_bytes, state_of_words}
use Rattle.aes128_core.specs.RoundKeys.{round_key, inner_key, inner_keys}
use Rattle.aes128_core.specs.State.{bytes_of}
use Rattle.aes128_core.specs.declared.lane_tables.TheConstants.{ORDER_0, ORDER_1, ORDER_2, ORDER_3}
use Rattle.aes128_core.proofs.RoundLemmas.{word_at}

pub round_key_is : (w : List ℕ) (n : ℕ) → 4 * n + 3 < length w
    → bytes_of (state_of_words (get_or w (4 * n) 0 ∷ get_or w (4 * n + 1) 0 ∷ get_or w (4 * n + 2) 0 ∷ get_or w (4 * n + 3) 0 ∷ []))
    ≡ round_key (map word_bytes w) n
round_key_is w n inside =
    let k0 = word_at w (4 * n) (4 * n + 0) (omega arith) (omega arith) in
    let k1 = word_at w (4 * n + 1) (4 * n + 1) refl (omega arith) in
    let k2 = word_at w (4 * n + 2) (4 * n + 2) refl (omega arith) in
    let k3 = word_at w (4 * n + 3) (4 * n + 3) refl (omega arith) in
    let words : word_bytes (get_or w (4 * n) 0) ∷ word_bytes (get_or w (4 * n + 1) 0) ∷ word_bytes (get_or w (4 * n + 2) 0) ∷ word_bytes (get_or w (4 * n + 3) 0) ∷ []
    ≡ get_or (map word_bytes w) (4 * n + 0) [] ∷ get_or (map word_bytes w) (4 * n + 1) [] ∷ get_or (map word_bytes w) (4 * n + 2) [] ∷ get_or (map word_bytes w) (4 * n + 3) [] ∷ []
    = cc in
    ap bytes_of words

next : {a b : List ℕ} {xs ys : List (List ℕ)} → a ≡ b → xs ≡ ys → a ∷ xs ≡ b ∷ ys
next e f = ap₂ (λ (y : List ℕ) (ys : List (List ℕ)). y ∷ ys) e f

pub inner_keys_are : (v w : List (List ℕ)) (k1 k2 k3 k4 k5 k6 k7 k8 k9 : List ℕ) → v ≡ w
    → k1 ≡ inner_key v 1 ORDER_1 → k2 ≡ inner_key v 2 ORDER_2 → k3 ≡ inner_key v 3 ORDER_3
    → k4 ≡ inner_key v 4 ORDER_0 → k5 ≡ inner_key v 5 ORDER_1 → k6 ≡ inner_key v 6 ORDER_2
    → k7 ≡ inner_key v 7 ORDER_3 → k8 ≡ inner_key v 8 ORDER_0 → k9 ≡ inner_key v 9 ORDER_1
    → k1 ∷ k2 ∷ k3 ∷ k4 ∷ k5 ∷ k6 ∷ k7 ∷ k8 ∷ k9 ∷ [] ≡ inner_keys w
inner_keys_are v w k1 k2 k3 k4 k5 k6 k7 k8 k9 e e1 e2 e3 e4 e5 e6 e7 e8 e9 =
    next e1 (next e2 (next e3 (next e4 (next e5 (next e6 (next e7 (next e8 (next e9 refl))))))))
    ∙ ap inner_keys e
