-- Devices bound one by one.
use Rattle.std.proofs.Common.{◌≡◌, ◌≤◌, ℕ, ◌+◌, List, [], ◌∷◌, ◌++◌, map, ap, sym, ◌∙◌, arith}
use Rattle.std.specs.List.{range_with_len}
use Rattle.std.proofs.lemmas.List.FromFn.{map-range_with_len_more}

module _ {X : Type 0} where
  pub one_more : (f : ℕ → X) (all before : List X) (x : X) (n : ℕ) → before ≡ map f (range_with_len 0 n) → x ≡ f n → all ≡ before ++ x ∷ []
      → all ≡ map f (range_with_len 0 (n + 1))
  one_more f all before x n so_far is pushed =
      let here : 0 + n ≡ n = omega arith in
      pushed ∙ ap (λ xs. xs ++ x ∷ []) so_far ∙ ap (λ y. map f (range_with_len 0 n) ++ y ∷ []) is ∙ sym (map-range_with_len_more f 0 n n here)

  -- all of them were
  pub all_bound : (f : ℕ → List X) (all : List X) (n end count : ℕ) → all ≡ f n → n ≤ end → end ≤ n → end ≡ count → all ≡ f count
  all_bound f all n end count so_far up down is =
      let last : n ≡ end = omega arith in
      so_far ∙ ap f (last ∙ is)
