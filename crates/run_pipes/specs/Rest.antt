-- Lists whose elements have a property each, by their numbers.
use Rattle.std.specs.Prelude.{◌≡◌, ◌+◌, ℕ, List, length}
use Rattle.worker_order.specs.Returned.{AllAt}

-- what is left of a list of `total`, from number n on
pub record IsRest {X : Type 0} (P : ℕ → X → Type 0) (n total : ℕ) (xs : List X) : Type 0 where
  pub each : AllAt P n xs
  pub count : n + length xs ≡ total
