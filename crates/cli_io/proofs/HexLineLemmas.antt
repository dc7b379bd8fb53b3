-- A line of hex decoded into room for half as many bytes.
use Rattle.std.proofs.Common.{◌≡◌, ℕ, ◌*◌, ◌/◌, ◌%◌, List, length, sym, ap, ◌∙◌, arith, inl, inr}
use Rattle.std.specs.Prelude.{◌⊎◌}
use Rattle.hex.specs.Hex.{decode_sized}
use Rattle.hex.proofs.HexLemmas.{decode_of-odd, decode_sized-odd, decode_sized-twice}
use Rattle.cli_io.specs.HexLine.{bytes_of, decoded}

halves : (n : ℕ) → (n ≡ 2 * (n / 2)) ⊎ (n % 2 ≡ 1)
halves n = grind arith

pub sized_agrees : (s : List ℕ) (n : ℕ) → n ≡ length s / 2 → decoded (decode_sized s n) ≡ bytes_of s
sized_agrees s n half = elim (halves (length s)) [
  | inl even ↦ ap decoded (decode_sized-twice s n (even ∙ ap (λ (m : ℕ). 2 * m) (sym half)))
  | inr odd ↦ ap decoded (decode_sized-odd s n odd) ∙ sym (ap decoded (decode_of-odd s odd))
]
