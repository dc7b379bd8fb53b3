-- The front of a list.
use Rattle.std.proofs.Common.{◌≡◌, ℕ, List, ◌++◌, length, take, subst}
use Rattle.std.proofs.Math.Seq.{take-append_seam}

module _ {X : Type 0} where
  pub take_front : (n : ℕ) (xs ys : List X) → length xs ≡ n → take n (xs ++ ys) ≡ xs
  take_front n xs ys long = subst (λ (k : ℕ). take k (xs ++ ys) ≡ xs) long (take-append_seam xs ys)
