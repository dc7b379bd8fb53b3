-- Texts that grow number by number of a range.
use Rattle.std.proofs.Common.{◌≡◌, ℕ, zero, suc, ◌+◌, List, ◌++◌, Result, Ok, Err, sym, ap, ◌∙◌, append_assoc, add-zero, arith}
use Rattle.std.specs.Prelude.{OnOk}
use Rattle.std.specs.List.{flat_map, range_with_len}
use Rattle.std.proofs.lemmas.List.{append-nil}

-- one more number of a range
pub range_more : (f : ℕ → List ℕ) (a n : ℕ) → flat_map f (range_with_len a (n + 1)) ≡ flat_map f (range_with_len a n) ++ f (a + n)
range_more f a zero = rw (add-zero) (append-nil (f a))
range_more f a (suc n) =
    let one : suc n + 1 ≡ suc (n + 1) = omega arith in
    let same : (a + 1) + n ≡ a + suc n = omega arith in
    ap (λ (k : ℕ). flat_map f (range_with_len a k)) one
    ∙ ap (λ (t : List ℕ). f a ++ t) (range_more f (a + 1) n ∙ ap (λ (k : ℕ). flat_map f (range_with_len (a + 1) n) ++ f k) same)
    ∙ sym (append_assoc (f a) (flat_map f (range_with_len (a + 1) n)) (f (a + suc n)))

-- one more line of a range from 0 on
pub one_more_line : (f : ℕ → List ℕ) (before text one line : List ℕ) (n : ℕ) → text ≡ before ++ flat_map f (range_with_len 0 n) → line ≡ f n → one ≡ text ++ line
    → one ≡ before ++ flat_map f (range_with_len 0 (n + 1))
one_more_line f before text one line n so_far is wrote =
    let here : 0 + n ≡ n = omega arith in
    wrote ∙ ap (λ (t : List ℕ). t ++ line) so_far ∙ append_assoc before (flat_map f (range_with_len 0 n)) line
    ∙ ap (λ (t : List ℕ). before ++ t) (ap (λ (t : List ℕ). flat_map f (range_with_len 0 n) ++ t) (is ∙ ap f (sym here)) ∙ sym (range_more f 0 n))

-- three parts after one another
pub reported : {T E : Type 0} (r : Result T E) (before one two all a b d whole : List ℕ) → one ≡ before ++ a → two ≡ one ++ b → whole ≡ a ++ (b ++ d) → OnOk r (all ≡ two ++ d) → OnOk r (all ≡ before ++ whole)
reported (Err e) before one two all a b d whole first second parts last = tt
reported (Ok x) before one two all a b d whole first second parts last =
    last ∙ ap (λ (t : List ℕ). t ++ d) (second ∙ ap (λ (t : List ℕ). t ++ b) first) ∙ append_assoc (before ++ a) b d ∙ append_assoc before a (b ++ d) ∙ ap (λ (t : List ℕ). before ++ t) (sym parts)
