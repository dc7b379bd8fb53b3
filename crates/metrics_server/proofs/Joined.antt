-- Texts that grow part by part.
use Rattle.std.proofs.Common.{◌≡◌, ℕ, List, ◌++◌, Result, Ok, Err, ap, ◌∙◌, append_assoc}
use Rattle.std.specs.Prelude.{OnOk, if◌then◌else◌, is_ok}

pub four_parts : {T E : Type 0} (r : Result T E) (before one two three all a b d e : List ℕ) → one ≡ before ++ a → two ≡ one ++ b → three ≡ two ++ d
    → all ≡ (if is_ok r then three ++ e else three) → OnOk r (all ≡ before ++ (a ++ (b ++ (d ++ e))))
four_parts (Err x) before one two three all a b d e first second third last = tt
four_parts (Ok x) before one two three all a b d e first second third last =
    let so_far : two ≡ before ++ (a ++ b) = second ∙ ap (λ (t : List ℕ). t ++ b) first ∙ append_assoc before a b in
    let more : three ≡ before ++ ((a ++ b) ++ d) = third ∙ ap (λ (t : List ℕ). t ++ d) so_far ∙ append_assoc before (a ++ b) d in
    let whole : all ≡ before ++ (((a ++ b) ++ d) ++ e) = last ∙ ap (λ (t : List ℕ). t ++ e) more ∙ append_assoc before ((a ++ b) ++ d) e in
    whole ∙ ap (λ (t : List ℕ). before ++ t) (append_assoc (a ++ b) d e ∙ append_assoc a b (d ++ e))
