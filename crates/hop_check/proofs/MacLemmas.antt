-- Bytes are the same exactly if they are the same number.
use Rattle.std.proofs.Common.{◌≡◌, ◌<◌, ◌^◌, ℕ, zero, suc, eqb, List, ◌∷◌, get_or, sym, ap, ◌∙◌, arith}
use Rattle.std.specs.Int.{from_be_bytes, to_be_bytes, w64}
use Rattle.std.specs.Str.{bytes_eq}
use Rattle.std.proofs.lemmas.Bool.Decides.{same_from_decides, Decides-eqb}
use Rattle.std.proofs.lemmas.Nat.{from_be_bytes-to_be_bytes_8}
use Rattle.std.proofs.lemmas.Slice.Eq.{bytes_eq-Decides}

pub eight_bytes : (mac : List ℕ) → ((i : ℕ) → get_or mac i 0 < 256) → (i : ℕ) → get_or (0 ∷ 0 ∷ mac) i 0 < 256
eight_bytes mac fits zero = omega arith
eight_bytes mac fits (suc zero) = omega arith
eight_bytes mac fits (suc (suc i)) = fits i

pub numbers_tell : (x y : ℕ) (bytes : List ℕ) → x < 2 ^ 64 → y < 2 ^ 64 → to_be_bytes w64 y ≡ bytes → eqb x y ≡ bytes_eq (to_be_bytes w64 x) bytes
numbers_tell x y bytes fx fy is =
    let number = Decides-eqb x y in
    same_from_decides (eqb x y) (bytes_eq (to_be_bytes w64 x) bytes) (
      λ told. ap (to_be_bytes w64) (number.0 told) ∙ is,
      λ same. number.1
          (sym (from_be_bytes-to_be_bytes_8 x fx) ∙ ap (from_be_bytes w64) (same ∙ sym is) ∙ from_be_bytes-to_be_bytes_8 y fy),
    )
    (bytes_eq-Decides (to_be_bytes w64 x) bytes)
