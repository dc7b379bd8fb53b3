-- The end marks of the links' pipes, link by link.
use Rattle.std.proofs.Common.{◌≡◌, ◌⊎◌, inl, inr, ℕ, ◌+◌, ◌*◌, ◌<◌, Bool, true, false, eqb, nat_lt, ◌||◌, ◌&&◌, List, length, refl, sym, ap, subst, ◌∙◌, arith}
use Rattle.std.proofs.Math.Bool.{and_assoc, or-false, or-true}
use Rattle.std.proofs.lemmas.Bool.{cases_eq, ne_eqb, eq-eqb, lt-ltb, le-ltb}
use Rattle.worker_parts.specs.Outlet.{Offering}
use Rattle.worker_parts.specs.Outlets.{Trying, is_used}
use Rattle.worker_parts.proofs.EndLemmas.{trying_as, trying_next}
use Rattle.worker_parts.proofs.UsedLemmas.{used_high, used_low}
use Rattle.worker_processor.specs.Exits.{TriedLink}

-- the pipes that are used of the first links
abbrev pub used_to : (ℕ → Bool) → ℕ → ℕ → Bool
used_to two l j = nat_lt j (2 * l) && is_used two j

and_true : (a b : Bool) → a ≡ true → b ≡ true → (a && b) ≡ true
and_true true true e f = refl
and_true true false e f = absurd cc
and_true false b e f = absurd cc

and_false : (a b : Bool) → a ≡ false → (a && b) ≡ false
and_false true b e = absurd cc
and_false false b e = refl

or_here : (a b : Bool) → b ≡ true → (a || b) ≡ true
or_here a b e = ap (λ (x : Bool). a || x) e ∙ or-true a

or_same : (a b : Bool) → b ≡ false → (a || b) ≡ a
or_same a b e = ap (λ (x : Bool). a || x) e ∙ or-false a

module _ (two : ℕ → Bool) (l : ℕ) where
  fresh_low : used_to two l (2 * l) ≡ false
  fresh_low = and_false (nat_lt (2 * l) (2 * l)) (is_used two (2 * l)) (le-ltb (2 * l) (2 * l) (omega arith))

  fresh_high : used_to two l (2 * l + 1) ≡ false
  fresh_high = and_false (nat_lt (2 * l + 1) (2 * l)) (is_used two (2 * l + 1)) (le-ltb (2 * l + 1) (2 * l) (omega arith))

  at_low : used_to two (l + 1) (2 * l) ≡ true
  at_low = and_true (nat_lt (2 * l) (2 * (l + 1))) (is_used two (2 * l)) (lt-ltb (2 * l) (2 * (l + 1)) (omega arith)) (used_low two l)

  at_high : used_to two (l + 1) (2 * l + 1) ≡ two l
  at_high = ap (λ (b : Bool). b && is_used two (2 * l + 1)) (lt-ltb (2 * l + 1) (2 * (l + 1)) (omega arith)) ∙ used_high two l

  elsewhere : (j : ℕ) → (j ≡ 2 * l → ⊥) → (j ≡ 2 * l + 1 → ⊥) → used_to two l j ≡ used_to two (l + 1) j
  elsewhere j n m = ap (λ (b : Bool). b && is_used two j) (grind arith)

  -- both
  two_more : two l ≡ true → (j : ℕ) → ((used_to two l j || eqb j (2 * l + 1)) || eqb j (2 * l)) ≡ used_to two (l + 1) j
  two_more is j = go (cases_eq j (2 * l)) (cases_eq j (2 * l + 1))
    where
      go : (j ≡ 2 * l) ⊎ (j ≡ 2 * l → ⊥) → (j ≡ 2 * l + 1) ⊎ (j ≡ 2 * l + 1 → ⊥) → ((used_to two l j || eqb j (2 * l + 1)) || eqb j (2 * l)) ≡ used_to two (l + 1) j
      go (inl e) d = or_here (used_to two l j || eqb j (2 * l + 1)) (eqb j (2 * l)) (eq-eqb j (2 * l) e) ∙ sym (ap (λ (k : ℕ). used_to two (l + 1) k) e ∙ at_low)
      go (inr n) (inl e) =
          or_same (used_to two l j || eqb j (2 * l + 1)) (eqb j (2 * l)) (ne_eqb j (2 * l) n) ∙ or_here (used_to two l j) (eqb j (2 * l + 1)) (eq-eqb j (2 * l + 1) e)
          ∙ sym (ap (λ (k : ℕ). used_to two (l + 1) k) e ∙ at_high ∙ is)
      go (inr n) (inr m) =
          or_same (used_to two l j || eqb j (2 * l + 1)) (eqb j (2 * l)) (ne_eqb j (2 * l) n) ∙ or_same (used_to two l j) (eqb j (2 * l + 1)) (ne_eqb j (2 * l + 1) m) ∙ elsewhere j n m

  -- the low band's alone
  one_more : two l ≡ false → (j : ℕ) → (used_to two l j || eqb j (2 * l)) ≡ used_to two (l + 1) j
  one_more is j = go (cases_eq j (2 * l)) (cases_eq j (2 * l + 1))
    where
      go : (j ≡ 2 * l) ⊎ (j ≡ 2 * l → ⊥) → (j ≡ 2 * l + 1) ⊎ (j ≡ 2 * l + 1 → ⊥) → (used_to two l j || eqb j (2 * l)) ≡ used_to two (l + 1) j
      go (inl e) d = or_here (used_to two l j) (eqb j (2 * l)) (eq-eqb j (2 * l) e) ∙ sym (ap (λ (k : ℕ). used_to two (l + 1) k) e ∙ at_low)
      go (inr n) (inl e) =
          or_same (used_to two l j) (eqb j (2 * l)) (ne_eqb j (2 * l) n) ∙ ap (λ (k : ℕ). used_to two l k) e ∙ fresh_high ∙ sym (ap (λ (k : ℕ). used_to two (l + 1) k) e ∙ at_high ∙ is)
      go (inr n) (inr m) = or_same (used_to two l j) (eqb j (2 * l)) (ne_eqb j (2 * l) n) ∙ elsewhere j n m

  module _ {T : Type 0} (old now new : List (Offering T)) (all there : Bool) (there_is : 2 * l + 1 < length now) where
    -- one link more
    pub link_more : (b : Bool) → b ≡ two l → TriedLink l b now new there → Trying (used_to two l) old now all → Trying (used_to two (l + 1)) old new (all && there)
    link_more false is tried so_far =
        trying_as (λ j. used_to two l j || eqb j (2 * l)) (used_to two (l + 1)) old new (all && there) (λ j lt. one_more (sym is) j)
        (trying_next (used_to two l) (2 * l) old now new all there fresh_low (omega arith) so_far tried)
    link_more true is tried so_far =
        let mid = tried.0 in
        let high = tried.1 in
        let low = tried.2 in
        let first = trying_next (used_to two l) (2 * l + 1) old now mid all high fresh_high there_is so_far tried.3 in
        let fresh : (used_to two l (2 * l) || eqb (2 * l) (2 * l + 1)) ≡ false = or_same (used_to two l (2 * l)) (eqb (2 * l) (2 * l + 1)) (ne_eqb (2 * l) (2 * l + 1) (λ e. omega arith)) ∙ fresh_low in
        let here : 2 * l < length mid = let a = so_far.tried.0 in let b = first.tried.0 in omega arith in
        let both = trying_next (λ j. used_to two l j || eqb j (2 * l + 1)) (2 * l) old mid new (all && high) low fresh here first tried.4 in
        let named = trying_as (λ j. (used_to two l j || eqb j (2 * l + 1)) || eqb j (2 * l)) (used_to two (l + 1)) old new ((all && high) && low) (λ j lt. two_more (sym is) j) both in
        subst (λ (b : Bool). Trying (used_to two (l + 1)) old new b) (and_assoc all high low ∙ ap (λ (b : Bool). all && b) (sym tried.5)) named
