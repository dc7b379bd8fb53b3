-- What is appended to two lists is appended to their merge; of one list it is that list.
use Rattle.std.proofs.Common.{◌≡◌, inl, inr, List, [], ◌∷◌, ◌++◌, refl, sym, subst, ◌∙◌, ap}
use Rattle.order_laws.specs.Item.{Outgoing}
use Rattle.order_laws.specs.Kinds.{Kinds}
use Rattle.order_laws.specs.Merge.{IsMerge}

module _ {K : Kinds} where
  merge_right : (b : List (Outgoing K)) → IsMerge [] b b
  merge_right [] = (refl, refl)
  merge_right (y ∷ b) = inr (b, refl, merge_right b)

  merge_both : (a b : List (Outgoing K)) → IsMerge a b (a ++ b)
  merge_both [] b = merge_right b
  merge_both (x ∷ a) b = inl (a, refl, merge_both a b)

  pub merge-append : (xs ys zs a b : List (Outgoing K)) → IsMerge xs ys zs → IsMerge (xs ++ a) (ys ++ b) (zs ++ (a ++ b))
  merge-append xs ys [] a b h =
      let P : List (Outgoing K) → Type 0 = λ p. IsMerge (p ++ a) (ys ++ b) (a ++ b) in
      let Q : List (Outgoing K) → Type 0 = λ p. IsMerge a (p ++ b) (a ++ b) in
      subst P (sym h.0) (subst Q (sym h.1) (merge_both a b))
  merge-append xs ys (z ∷ zs) a b (inl h) = inl (h.0 ++ a, ap (λ (p : List (Outgoing K)). p ++ a) h.1, merge-append h.0 ys zs a b h.2)
  merge-append xs ys (z ∷ zs) a b (inr h) = inr (h.0 ++ b, ap (λ (p : List (Outgoing K)). p ++ b) h.1, merge-append xs h.0 zs a b h.2)

  pub merge_left : (xs zs : List (Outgoing K)) → IsMerge xs [] zs → zs ≡ xs
  merge_left xs [] h = sym h.0
  merge_left xs (z ∷ zs) (inl h) = ap (λ (p : List (Outgoing K)). z ∷ p) (merge_left h.0 zs h.2) ∙ sym h.1
  merge_left xs (z ∷ zs) (inr h) = absurd (let e = h.1 in let P : ⊥ = cc in P)
