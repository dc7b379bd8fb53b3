-- Texts of decimal and of hex digits, and their numbers.
use Rattle.std.proofs.Common.{◌≡◌, ◌≤◌, ◌<◌, ◌^◌, ℕ, ◌&&◌, Bool, true, List, [], ◌∷◌, length, Option, Some, None, arith, sym, ap, ◌∙◌, refl, subst, inl, inr, decimal}
use Rattle.std.specs.Prelude.{IfNone, IfSome, ◌≢◌, nat_le, nat_lt, slice_index, ◌==◌, if◌then◌else◌}
use Rattle.std.specs.Str.{bytes_eq}
use Rattle.std.specs.Str.Parse.{AllDigits, IsNumeral, digits_value, without_leading_plus}
use Rattle.std.specs.List.{list_all}
use Rattle.std.specs.Char.{digit_value}
use Rattle.std.proofs.lemmas.Int.Digits.{digits_value-lt}
use Rattle.std.proofs.lemmas.Bool.{and_parts, cases_Bool}
use Rattle.std.proofs.lemmas.Bool.Decides.{Decides-eqb, Decides-ltb, nat_tests}
use Rattle.std.proofs.lemmas.Fmt.{decimal_is_IsNumeral}
use Rattle.std.proofs.Math.Nat.{pow-le-pow_right}
use Rattle.std.proofs.lemmas.Slice.Eq.{bytes_eq-Decides}
use Rattle.text_values.specs.Pieces.{group_of, number_up_to}

le_test : (a b : ℕ) → a ≤ b → nat_le a b ≡ true
le_test a b h = grind (arith, nat_tests)

le_tested : (a b : ℕ) → nat_le a b ≡ true → a ≤ b
le_tested a b h = grind (arith, nat_tests)

when : {A : Type 0} (a b : Bool) (x y : A) → a ≡ true → b ≡ true → (if a && b then x else y) ≡ x
when a b x y ta tb = rw (ta, tb) refl

pub number_is : (limit : ℕ) (text : List ℕ) (r : Option ℕ) → limit < 2 ^ 64 → IfSome r (λ n. (n ≤ limit) × (text ≡ decimal n))
    → IfNone r ((n : ℕ) → n ≤ limit → text ≢ decimal n) → r ≡ number_up_to limit text
number_is limit text (Some n) small found none =
    let fits : n < 2 ^ 64 = omega (arith, found.0) in
    let value : digits_value 10 text ≡ n = ap (digits_value 10) found.1 ∙ (decimal_is_IsNumeral n fits).1 in
    let within : nat_le (digits_value 10 text) limit ≡ true = le_test (digits_value 10 text) limit (rw value found.0) in
    let same : bytes_eq (decimal (digits_value 10 text)) text ≡ true = (bytes_eq-Decides (decimal (digits_value 10 text)) text).1 (ap decimal value ∙ sym found.1) in
    ap (λ k. Some k) (sym value) ∙ sym (when _ _ (Some (digits_value 10 text)) None within same)
number_is limit text None small found none = elim (cases_Bool (nat_le (digits_value 10 text) limit && bytes_eq (decimal (digits_value 10 text)) text)) [
  | inl both ↦
      let parts = and_parts _ _ both in
      absurd (none (digits_value 10 text) (le_tested _ _ parts.0) (sym ((bytes_eq-Decides (decimal (digits_value 10 text)) text).0 parts.1)))
  | inr neither ↦ rw neither refl
]

-- ---- groups of hex digits

digits_pass : (text : List ℕ) → AllDigits 16 text → list_all (λ c. nat_lt (digit_value c) 16) text ≡ true
digits_pass [] h = refl
digits_pass (c ∷ cs) h = rw ((Decides-ltb (digit_value c) 16).1 h.0) (digits_pass cs h.1)

passing_digits : (text : List ℕ) → list_all (λ c. nat_lt (digit_value c) 16) text ≡ true → AllDigits 16 text
passing_digits [] h = tt
passing_digits (c ∷ cs) h =
    let parts = and_parts (nat_lt (digit_value c) 16) (list_all (λ d. nat_lt (digit_value d) 16) cs) h in
    ((Decides-ltb (digit_value c) 16).0 parts.0, passing_digits cs parts.1)

no_plus : (text : List ℕ) → slice_index text 0 ≢ 43 → without_leading_plus text ≡ text
no_plus text other = elim (cases_Bool (slice_index text 0 == 43)) [
  | inl plus ↦ absurd (other ((Decides-eqb (slice_index text 0) 43).0 plus))
  | inr none ↦ rw none refl
]

short : (n : ℕ) → n ≤ 4 → 16 ^ n ≤ 65536
short n h = pow-le-pow_right {n = 16} (omega arith) h

abbrev Parsed : List ℕ → Type 0
Parsed ds = IsNumeral 16 ds × (digits_value 16 ds < 2 ^ 16)

pub group_read : (text : List ℕ) (n : ℕ) → Parsed (without_leading_plus text) × (n ≡ digits_value 16 (without_leading_plus text))
    → length text ≤ 4 → slice_index text 0 ≢ 43 → Some n ≡ group_of text
group_read text n parsed few other =
    let P : List ℕ → Type 0 = λ ds. Parsed ds × (n ≡ digits_value 16 ds) in
    let read : P text = subst P (no_plus text other) parsed in
    let begun : nat_lt 0 (length text) ≡ true = (Decides-ltb 0 (length text)).1 read.0.0.0 in
    let within : nat_le (length text) 4 ≡ true = le_test (length text) 4 few in
    let digits = digits_pass text read.0.0.1 in
    rw (begun, within, digits) (ap (λ k. Some k) read.1)

pub group_refused : (text : List ℕ) → (Parsed (without_leading_plus text) → ⊥) → length text ≤ 4 → slice_index text 0 ≢ 43 → None ≡ group_of text
group_refused text refused few other = elim (cases_Bool (list_all (λ c. nat_lt (digit_value c) 16) text)) [
  | inl all ↦ elim (cases_Bool (nat_lt 0 (length text))) [
    | inl some ↦
        let digits = passing_digits text all in
        let small : digits_value 16 text < 2 ^ 16 = omega (arith, digits_value-lt 16 text digits, short (length text) few) in
        let P : List ℕ → Type 0 = Parsed in
        absurd (refused (subst P (sym (no_plus text other)) (((Decides-ltb 0 (length text)).0 some, digits), small)))
    | inr empty ↦ rw empty refl
  ]
  | inr bad ↦ elim (cases_Bool (nat_lt 0 (length text))) [
    | inl some ↦ rw (some, le_test (length text) 4 few, bad) refl
    | inr empty ↦ rw empty refl
  ]
]
