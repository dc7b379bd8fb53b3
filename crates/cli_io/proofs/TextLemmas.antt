-- Whether a line is text.
use Rattle.std.proofs.Common.{◌≡◌, ℕ, true, List, Some, None, refl, inl, inr}
use Rattle.std.specs.Str.{IsUtf8, is_utf8}
use Rattle.std.proofs.lemmas.Bool.{cases_Bool}
use Rattle.std.proofs.lemmas.Str.{IsUtf8-from_is_utf8, is_utf8-from_IsUtf8}
use Rattle.cli_io.specs.Text.{as_text}

pub is_text : (line : List ℕ) → IsUtf8 line → as_text line ≡ Some line
is_text line utf8 = let hit : is_utf8 line ≡ true = is_utf8-from_IsUtf8 line utf8 in rw hit refl

pub no_text : (line : List ℕ) → (IsUtf8 line → ⊥) → as_text line ≡ None
no_text line other = elim (cases_Bool (is_utf8 line)) [
  | inl hit ↦ absurd (other (IsUtf8-from_is_utf8 line hit))
  | inr miss ↦ rw miss refl
]
