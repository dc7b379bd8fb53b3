-- Hex digits of a group of 16 bits.
use Rattle.std.proofs.Common.{◌≡◌, ℕ, ◌<◌, ◌≤◌, ◌/◌, ◌%◌, ◌==◌, List, [], ◌∷◌, ◌++◌, true, false, Ok, Err, Result, append_assoc, refl, ap, ◌∙◌, arith}
use Rattle.std.specs.Prelude.{OnOk, is_ok, if◌then◌else◌}
use Rattle.std.specs.Fmt.{digit_glyph, digits}
use Rattle.std.proofs.lemmas.Bool.Decides.{nat_tests}

abbrev glyph : ℕ → ℕ
glyph n = digit_glyph false n

at_end : (n : ℕ) → n < 16 → (n / 16 == 0) ≡ true
at_end n small =
    let none : n / 16 ≡ 0 = omega arith in
    rw none refl

goes_on : (n : ℕ) → 16 ≤ n → (n / 16 == 0) ≡ false
goes_on n large =
    let some : 0 < n / 16 = omega arith in
    grind (arith, nat_tests)

pub one_digit : (n : ℕ) → n < 16 → glyph (n % 16) ∷ [] ≡ digits 16 false n
unfolding digits
one_digit n small = rw (at_end n small) refl

pub two_digits : (n : ℕ) → 16 ≤ n → n < 256 → glyph (n / 16 % 16) ∷ glyph (n % 16) ∷ [] ≡ digits 16 false n
unfolding digits
two_digits n large small = rw (goes_on n large, at_end (n / 16) (omega arith)) refl

pub three_digits : (n : ℕ) → 256 ≤ n → n < 4096 → glyph (n / 256 % 16) ∷ glyph (n / 16 % 16) ∷ glyph (n % 16) ∷ [] ≡ digits 16 false n
unfolding digits
three_digits n large small =
    let twice : n / 256 ≡ n / 16 / 16 = omega arith in
    rw (twice, goes_on n (omega arith), goes_on (n / 16) (omega arith), at_end (n / 16 / 16) (omega arith)) refl

pub four_digits : (n : ℕ) → 4096 ≤ n → n < 65536 → glyph (n / 4096 % 16) ∷ glyph (n / 256 % 16) ∷ glyph (n / 16 % 16) ∷ glyph (n % 16) ∷ [] ≡ digits 16 false n
unfolding digits
four_digits n large small =
    let twice : n / 256 ≡ n / 16 / 16 = omega arith in
    let thrice : n / 4096 ≡ n / 16 / 16 / 16 = omega arith in
    rw (twice, thrice, goes_on n (omega arith), goes_on (n / 16) (omega arith), goes_on (n / 16 / 16) (omega arith), at_end (n / 16 / 16 / 16) (omega arith)) refl

-- what was added is this text
pub added : {E : Type 0} (r : Result (Unit {0}) E) (old new more shown : List ℕ) → new ≡ (if is_ok r then old ++ more else old) → more ≡ shown → OnOk r (new ≡ old ++ shown)
added (Ok _) old new more shown is same = is ∙ ap (λ (xs : List ℕ). old ++ xs) same
added (Err _) old new more shown is same = tt

-- four texts added one after the other
pub four_added : {E : Type 0} (r : Result (Unit {0}) E) (a b c d e p q s t : List ℕ) → b ≡ a ++ p → c ≡ b ++ q → d ≡ c ++ s → OnOk r (e ≡ d ++ t)
    → OnOk r (e ≡ a ++ (p ++ (q ++ (s ++ t))))
four_added (Ok _) a b c d e p q s t first second third last = rw (last, third, second, first) (simp append_assoc)
four_added (Err _) a b c d e p q s t first second third last = tt
