-- Bytes as numbers of two bytes, and back.
use Rattle.std.proofs.Common.{◌≡◌, ℕ, zero, suc, ◌+◌, ◌*◌, ◌/◌, ◌%◌, ◌<◌, List, [], ◌∷◌, length, slice_index_or, refl, ap, ◌∙◌, arith}
use Rattle.std.specs.Net.Addr.{octets_of, segments_of}
use Rattle.std.proofs.lemmas.Nat.{div-mul-add, mod-mul-add}

pub octets_back : (k : ℕ) (xs : List ℕ) → length xs ≡ k + k → ((i : ℕ) → slice_index_or xs i 0 < 256) → octets_of (segments_of xs) ≡ xs
octets_back zero [] len small = refl
octets_back zero (x ∷ xs) len small = let no : ⊥ = omega arith in absurd no
octets_back (suc k) [] len small = let no : ⊥ = omega arith in absurd no
octets_back (suc k) (a ∷ []) len small = let no : ⊥ = omega arith in absurd no
octets_back (suc k) (a ∷ b ∷ xs) len small =
    let fits : b < 256 = small 1 in
    let high : (a * 256 + b) / 256 ≡ a = div-mul-add a 256 b fits in
    let low : (a * 256 + b) % 256 ≡ b = mod-mul-add a 256 b fits in
    let shorter : length xs ≡ k + k = omega arith in
    ap (λ (x : ℕ). x ∷ (a * 256 + b) % 256 ∷ octets_of (segments_of xs)) high
    ∙ ap (λ (x : ℕ). a ∷ x ∷ octets_of (segments_of xs)) low
    ∙ ap (λ (ys : List ℕ). a ∷ b ∷ ys) (octets_back k xs shorter (λ i. small (suc (suc i))))
