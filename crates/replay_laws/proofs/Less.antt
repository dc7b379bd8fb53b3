-- The expected list after one more fate.
use Rattle.std.proofs.Common.{◌≡◌, ◌≢◌, ◌⊎◌, inl, inr, ℕ, Bool, true, false, not, ◌&&◌, ◌||◌, ◌≤◌, List, [], ◌∷◌, ◌++◌, length, refl, sym, ◌∙◌, ap, arith, eqb}
use Rattle.std.proofs.Math.Bool.{and-true, or-false}
use Rattle.std.specs.List.{filter}
use Rattle.std.proofs.lemmas.List.Elements.{filter_agree}
use Rattle.std.proofs.lemmas.List.Folds.{list_any-append}
use Rattle.std.proofs.lemmas.Bool.{eq-eqb, ne_eqb, cases_eq}
use Rattle.order_laws.specs.Expected.{Departure}
use Rattle.order_laws.specs.Less.{is_drop_of, is_dropped, is_early, less}
use Rattle.order_laws.specs.Kinds.{Kinds}
use Rattle.order_laws.specs.Cause.{Cause}
use Rattle.order_laws.specs.Fate.{Fate}
use Rattle.replay_laws.proofs.Lists.{taken_out, filter-filter, filter_filter_le}

module _ {K : Kinds} where
  module _ (F : List (Fate K)) (a : ℕ) (E : List (Departure K)) (k n : ℕ) (c : Cause K) where
    abbrev fate : Fate K
    fate = record { link = k; number = n; cause = c }

    dropped_more : (m : ℕ) (b : Bool) → is_drop_of a m fate ≡ b → is_dropped (F ++ fate ∷ []) a m ≡ (is_dropped F a m || b)
    dropped_more m true e = list_any-append (is_drop_of a m) F (fate ∷ []) ∙ rw e refl
    dropped_more m false e = list_any-append (is_drop_of a m) F (fate ∷ []) ∙ rw e refl

    -- a fate of another link, or a late one
    less_same : ((m : ℕ) → is_drop_of a m fate ≡ false) → less (F ++ fate ∷ []) a E ≡ less F a E
    less_same h = filter_agree _ _ (λ x. ap not (dropped_more x.number false (h x.number) ∙ or-false _)) E

    pub less_other : k ≢ a → less (F ++ fate ∷ []) a E ≡ less F a E
    less_other h = less_same (λ m. rw (ne_eqb k a h) refl)

    late : (x y z : Bool) → z ≡ false → (x && (y && z)) ≡ false
    late true true z h = h
    late true false z h = refl
    late false y z h = refl

    pub less_late : is_early c ≡ false → less (F ++ fate ∷ []) a E ≡ less F a E
    less_late h = less_same (λ m. late (eqb k a) (eqb n m) (is_early c) h)

    not_or : (x y : Bool) → not (x || y) ≡ (not x && not y)
    not_or true y = refl
    not_or false y = refl

    less_early : k ≡ a → is_early c ≡ true → less (F ++ fate ∷ []) a E ≡ filter (λ x. not (eqb n x.number)) (less F a E)
    less_early h e =
        filter_agree _ _ (λ x. ap not (dropped_more x.number (eqb n x.number) (rw (eq-eqb k a h, e) (and-true (eqb n x.number)))) ∙ not_or _ _) E
        ∙ sym (filter-filter (λ x. not (eqb n x.number)) (λ x. not (is_dropped F a x.number)) E)

    -- what is cut out of the line is what the fate takes from the expected list
    pub cut_out : (xs m ys : List (Departure K)) → is_early c ≡ true → (k ≢ a → m ≡ []) → length (filter (λ x. eqb n x.number) m) ≡ length m → (k ≡ a → length (filter (λ x. eqb n x.number) E) ≤ length m) → xs ++ (m ++ ys) ≡ less F a E → xs ++ ys ≡ less (F ++ fate ∷ []) a E
    cut_out xs m ys early apart named true_at h = go (cases_eq k a)
      where
        go : (k ≡ a) ⊎ (k ≡ a → ⊥) → xs ++ ys ≡ less (F ++ fate ∷ []) a E
        go (inl e) =
            let few : length (filter (λ x. eqb n x.number) (xs ++ (m ++ ys))) ≤ length m =
            rw h (omega (arith, filter_filter_le (λ x. eqb n x.number) (λ x. not (is_dropped F a x.number)) E, true_at e)) in
            sym (taken_out (λ x. eqb n x.number) xs m ys named few)
            ∙ (ap (λ (zs : List (Departure K)). filter (λ x. not (eqb n x.number)) zs) h ∙ sym (less_early e early))
        go (inr e) = sym (ap (λ (zs : List (Departure K)). xs ++ (zs ++ ys)) (apart e)) ∙ (h ∙ sym (less_other e))

  -- Less some fates and then others: how the laws of two workers compose.
  pub less-append : (F G : List (Fate K)) (a : ℕ) (E : List (Departure K)) → less (F ++ G) a E ≡ less G a (less F a E)
  less-append F G a E =
      filter_agree _ _ (λ x. ap not (list_any-append (is_drop_of a x.number) F G) ∙ not_both (is_dropped F a x.number) (is_dropped G a x.number)) E
      ∙ sym (filter-filter (λ x. not (is_dropped G a x.number)) (λ x. not (is_dropped F a x.number)) E)
    where
      not_both : (x y : Bool) → not (x || y) ≡ (not x && not y)
      not_both true y = refl
      not_both false y = refl
