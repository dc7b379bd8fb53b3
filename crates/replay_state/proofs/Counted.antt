-- Lists of one value, made one by one.
use Rattle.std.proofs.Common.{◌≡◌, ◌≤◌, ℕ, ◌+◌, List, [], ◌∷◌, ◌++◌, replicate, ◌∙◌, ap, append_assoc, arith}
use Rattle.std.proofs.lemmas.List.{replicate-append-replicate}

module _ {A : Type 0} where
  pub one_more : (xs ys : List A) (n : ℕ) (x a : A) → ys ≡ xs ++ x ∷ [] → x ≡ a → xs ≡ replicate n a → ys ≡ replicate (n + 1) a
  one_more xs ys n x a is same was =
      is ∙ ((λ i. was i ++ same i ∷ []) ∙ replicate-append-replicate n 1 a)

  -- after others
  pub one_more_after : (xs ys zs : List A) (n : ℕ) (x a : A) → zs ≡ ys ++ x ∷ [] → x ≡ a → ys ≡ xs ++ replicate n a → zs ≡ xs ++ replicate (n + 1) a
  one_more_after xs ys zs n x a is same was =
      is ∙ ((λ i. was i ++ same i ∷ []) ∙ (append_assoc xs (replicate n a) (a ∷ []) ∙ ap (λ (l : List A). xs ++ l) (replicate-append-replicate n 1 a)))

-- as many as were to be made
pub all_made : (k n : ℕ) → k ≤ n → n ≤ k → k ≡ n
all_made k n a b = omega arith
