-- Texts that grow part by part.
use Rattle.std.proofs.Common.{◌≡◌, ℕ, List, ◌++◌, Result, Ok, Err, ap, ◌∙◌, append_assoc}
use Rattle.std.specs.Prelude.{OnOk, if◌then◌else◌, is_ok}

pub two_parts : {T E : Type 0} (r : Result T E) (before one all a b : List ℕ) → one ≡ before ++ a → OnOk r (all ≡ one ++ b) → OnOk r (all ≡ before ++ (a ++ b))
two_parts (Err e) before one all a b first last = tt
two_parts (Ok x) before one all a b first last = last ∙ ap (λ (t : List ℕ). t ++ b) first ∙ append_assoc before a b

pub three_parts : {T E : Type 0} (r : Result T E) (before one two all a b d : List ℕ) → one ≡ before ++ a → two ≡ one ++ b → OnOk r (all ≡ two ++ d) → OnOk r (all ≡ before ++ (a ++ (b ++ d)))
three_parts (Err e) before one two all a b d first second last = tt
three_parts (Ok x) before one two all a b d first second last =
    last ∙ ap (λ (t : List ℕ). t ++ d) (second ∙ ap (λ (t : List ℕ). t ++ b) first) ∙ append_assoc (before ++ a) b d ∙ append_assoc before a (b ++ d)

-- what the last part's `?` leaves
pub last_part : {T E : Type 0} (r : Result T E) (before all b : List ℕ) → all ≡ (if is_ok r then before ++ b else before) → OnOk r (all ≡ before ++ b)
last_part (Err e) before all b is = tt
last_part (Ok x) before all b is = is
