-- Numbers and their ranks: how many of a list are smaller.
use Rattle.std.proofs.Common.{◌≡◌, ◌⊎◌, inl, inr, ℕ, ◌<◌, ◌≤◌, ◌-◌, Bool, true, false, not, ◌==◌, cond, suc, nat_lt, List, [], ◌∷◌, length, Some, refl, sym, subst, ◌∙◌, arith}
use Rattle.std.specs.List.{filter, find, list_any}
use Rattle.std.proofs.lemmas.Bool.{and_parts, both_ways, cases_Bool, cases_lt, cases_order, cond-true, cond-false, eq-eqb, eqb-true, false≢true, le-ltb, lt-ltb, not-true, or_cases, or_left, or_right}
use Rattle.order_laws.specs.Counts.{count}
use Rattle.process_packet.specs.Neighbours.{are_distinct}

abbrev pub has : List ℕ → ℕ → Bool
has xs id = list_any (λ k. k == id) xs

abbrev pub smaller : List ℕ → ℕ → ℕ
smaller xs id = count (λ k. nat_lt k id) xs

-- ---- one number more

smaller_more : (x : ℕ) (xs : List ℕ) (id : ℕ) → smaller (x ∷ xs) id ≡ cond (nat_lt x id) (suc (smaller xs id)) (smaller xs id)
smaller_more x xs id = go (nat_lt x id) (filter (λ k. nat_lt k id) xs)
  where
    go : (b : Bool) (ys : List ℕ) → length (cond b (x ∷ ys) ys) ≡ cond b (suc (length ys)) (length ys)
    go true ys = refl
    go false ys = refl

counted : (x : ℕ) (xs : List ℕ) (id : ℕ) → x < id → smaller (x ∷ xs) id ≡ suc (smaller xs id)
counted x xs id is = smaller_more x xs id ∙ cond-true _ _ _ (lt-ltb x id is)

left_out : (x : ℕ) (xs : List ℕ) (id : ℕ) → id ≤ x → smaller (x ∷ xs) id ≡ smaller xs id
left_out x xs id is = smaller_more x xs id ∙ cond-false _ _ _ (le-ltb x id is)

-- a member is the first number, or among the others
first_or_other : (x : ℕ) (xs : List ℕ) (id : ℕ) → has (x ∷ xs) id ≡ true → (x ≡ id) ⊎ (has xs id ≡ true)
first_or_other x xs id member =
    elim (or_cases (x == id) (has xs id) member) [
      | inl is ↦ inl (eqb-true x id is)
      | inr is ↦ inr is
    ]

-- ---- the rank of a member

pub none_below_zero : (xs : List ℕ) → smaller xs 0 ≡ 0
none_below_zero [] = refl
none_below_zero (x ∷ xs) = left_out x xs 0 (omega arith) ∙ none_below_zero xs

smaller_few : (xs : List ℕ) (id : ℕ) → smaller xs id ≤ length xs
smaller_few [] id = omega arith
smaller_few (x ∷ xs) id =
    let few = smaller_few xs id in
    elim (cases_lt x id) [
      | inl is ↦ omega (arith, counted x xs id is)
      | inr is ↦ omega (arith, left_out x xs id is)
    ]

pub member_below : (xs : List ℕ) (id : ℕ) → has xs id ≡ true → smaller xs id < length xs
member_below [] id member = absurd (false≢true member)
member_below (x ∷ xs) id member =
    elim (cases_lt x id) [
      | inl is ↦ elim (first_or_other x xs id member) [
        | inl same ↦ absurd (omega arith)
        | inr other ↦ omega (arith, counted x xs id is, member_below xs id other)
      ]
      | inr is ↦ omega (arith, left_out x xs id is, smaller_few xs id)
    ]

pub no_fewer : (xs : List ℕ) (a b : ℕ) → a ≤ b → smaller xs a ≤ smaller xs b
no_fewer [] a b order = omega arith
no_fewer (x ∷ xs) a b order =
    let rest = no_fewer xs a b order in
    elim (cases_lt x a) [
      | inl below ↦ let also : x < b = omega arith in omega (arith, counted x xs a below, counted x xs b also)
      | inr above ↦ elim (cases_lt x b) [
        | inl is ↦ omega (arith, left_out x xs a above, counted x xs b is)
        | inr is ↦ omega (arith, left_out x xs a above, left_out x xs b is)
      ]
    ]

-- a member is below each greater number
pub fewer : (xs : List ℕ) (a b : ℕ) → has xs a ≡ true → a < b → smaller xs a < smaller xs b
fewer [] a b member order = absurd (false≢true member)
fewer (x ∷ xs) a b member order =
    elim (cases_lt x a) [
      | inl below ↦ elim (first_or_other x xs a member) [
        | inl same ↦ absurd (omega arith)
        | inr other ↦ let also : x < b = omega arith in omega (arith, counted x xs a below, counted x xs b also, fewer xs a b other order)
      ]
      | inr above ↦ elim (cases_lt x b) [
        | inl is ↦ let le : a ≤ b = omega arith in omega (arith, left_out x xs a above, counted x xs b is, no_fewer xs a b le)
        | inr is ↦ elim (first_or_other x xs a member) [
          | inl same ↦ absurd (omega arith)
          | inr other ↦ omega (arith, left_out x xs a above, left_out x xs b is, fewer xs a b other order)
        ]
      ]
    ]

-- members of one rank are one
pub same_rank : (xs : List ℕ) (a b : ℕ) → has xs a ≡ true → has xs b ≡ true → smaller xs a ≡ smaller xs b → a ≡ b
same_rank xs a b has_a has_b same =
    elim (cases_order a b) [
      | inl is ↦ is
      | inr other ↦ elim other [
        | inl below ↦ absurd (omega (arith, fewer xs a b has_a below))
        | inr above ↦ absurd (omega (arith, fewer xs b a has_b above))
      ]
    ]

-- ---- each rank is that of a member

pub record OfRank (xs : List ℕ) (l : ℕ) : Type 0 where
  pub member : ℕ
  pub there : has xs member ≡ true
  pub rank : smaller xs member ≡ l

not_there : (x y : ℕ) (xs : List ℕ) → not (has xs x) ≡ true → has xs y ≡ true → x ≡ y → ⊥
not_there x y xs out member same = both_ways (has xs y) (subst (λ (z : ℕ). has xs z ≡ false) same (not-true (has xs x) out)) member

-- a member of a rank below that of x is below x, and one of a rank from there on above it
lower_one : (x : ℕ) (xs : List ℕ) (l : ℕ) → l < smaller xs x → OfRank xs l → OfRank (x ∷ xs) l
lower_one x xs l lower r =
    let above : r.member ≤ x = elim (cases_lt x r.member) [
      | inl is ↦ let le : x ≤ r.member = omega arith in absurd (omega (arith, no_fewer xs x r.member le, r.rank))
      | inr is ↦ is
    ] in
    record { member = r.member; there = or_right _ _ r.there; rank = left_out x xs r.member above ∙ r.rank }

higher_one : (x : ℕ) (xs : List ℕ) (l : ℕ) → not (has xs x) ≡ true → smaller xs x < l → OfRank xs (l - 1) → OfRank (x ∷ xs) l
higher_one x xs l out higher r =
    let below : x < r.member = elim (cases_order x r.member) [
      | inl is ↦ absurd (not_there x r.member xs out r.there is)
      | inr other ↦ elim other [
        | inl is ↦ is
        | inr is ↦ absurd (omega (arith, fewer xs r.member x r.there is, r.rank))
      ]
    ] in
    record { member = r.member; there = or_right _ _ r.there; rank = omega (arith, counted x xs r.member below, r.rank) }

pub of_rank : (xs : List ℕ) (l : ℕ) → are_distinct xs ≡ true → l < length xs → OfRank xs l
of_rank [] l distinct below = absurd (omega arith)
of_rank (x ∷ xs) l distinct below =
    let parts = and_parts (not (has xs x)) (are_distinct xs) distinct in
    elim (cases_order l (smaller xs x)) [
      | inl is ↦ record { member = x; there = or_left _ _ (eq-eqb x x refl); rank = left_out x xs x (omega arith) ∙ sym is }
      | inr other ↦ elim other [
        | inl lower ↦ lower_one x xs l lower (of_rank xs l parts.1 (omega (arith, smaller_few xs x)))
        | inr higher ↦ higher_one x xs l parts.0 higher (of_rank xs (l - 1) parts.1 (omega arith))
      ]
    ]

-- ---- the first that passes

pub record Found (p : ℕ → Bool) (xs : List ℕ) : Type 0 where
  pub at : ℕ
  pub is : find p xs ≡ Some at
  pub passes : p at ≡ true
  pub there : has xs at ≡ true

pub found : (p : ℕ → Bool) (xs : List ℕ) (id : ℕ) → has xs id ≡ true → p id ≡ true → Found p xs
found p [] id member passes = absurd (false≢true member)
found p (x ∷ xs) id member passes =
    elim (cases_Bool (p x)) [
      | inl passed ↦ record { at = x; is = cond-true _ _ _ passed; passes = passed; there = or_left _ _ (eq-eqb x x refl) }
      | inr failed ↦ elim (first_or_other x xs id member) [
        | inl same ↦ absurd (both_ways (p id) (subst (λ (z : ℕ). p z ≡ false) same failed) passes)
        | inr other ↦ let f = found p xs id other passes in record { at = f.at; is = cond-false _ _ _ failed ∙ f.is; passes = f.passes; there = or_right _ _ f.there }
      ]
    ]
