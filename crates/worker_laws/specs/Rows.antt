-- Workers' bundles of ends, of which one pipe after another is gathered, the last first.
use Rattle.std.specs.Prelude.{◌≡◌, ◌<◌, ℕ, suc, List, [], ◌∷◌, ◌++◌, length}
use Rattle.worker_laws.specs.Workers.{IsColumn}

module _ {X : Type 0} where
  -- the last of each is taken off
  abbrev pub TakesLast : (olds news : List (List X)) → List X → Type 0
  TakesLast [] [] [] = Unit {0}
  TakesLast (old ∷ olds) (new ∷ news) (x ∷ xs) = (old ≡ new ++ x ∷ []) × TakesLast olds news xs
  TakesLast _ _ _ = ⊥

  abbrev pub AllLong : ℕ → List (List X) → Type 0
  AllLong n [] = Unit {0}
  AllLong n (r ∷ rows) = (length r ≡ n) × AllLong n rows

-- What was taken off are the producers of the last pipe, and those of the pipes before it are as they were.
abbrev pub RowsAreColumns : Type 0 → Type 0
RowsAreColumns X =
    (k : ℕ) (olds news : List (List X)) (row : List X) → AllLong (suc k) olds → TakesLast olds news row
    → AllLong k news × IsColumn k olds row × ((j : ℕ) (r : List X) → j < k → IsColumn j news r → IsColumn j olds r)
