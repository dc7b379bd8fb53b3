-- What is taken off the bundles are the producers of the last pipe.
use Rattle.std.proofs.Common.{◌≡◌, ℕ, zero, suc, List, [], ◌∷◌, ◌++◌, length, Some, slice_get, refl, ap, ◌∙◌, arith, length-append}
use Rattle.worker_laws.specs.Workers.{IsColumn}
use Rattle.worker_laws.specs.Rows.{TakesLast, AllLong, RowsAreColumns}

module _ {X : Type 0} where
  at_last : (xs : List X) (x : X) (k : ℕ) → length xs ≡ k → slice_get (xs ++ x ∷ []) k ≡ Some x
  at_last [] x zero e = refl
  at_last [] x (suc k) e = absurd (omega arith)
  at_last (y ∷ xs) x zero e = absurd (omega arith)
  at_last (y ∷ xs) x (suc k) e = at_last xs x k (omega arith)

  before_last : (xs : List X) (x z : X) (j : ℕ) → slice_get xs j ≡ Some z → slice_get (xs ++ x ∷ []) j ≡ Some z
  before_last [] x z j at = absurd cc
  before_last (y ∷ xs) x z zero at = at
  before_last (y ∷ xs) x z (suc j) at = before_last xs x z j at

  shorter : (k : ℕ) (old new : List X) (x : X) → old ≡ new ++ x ∷ [] → length old ≡ suc k → length new ≡ k
  shorter k old new x is long = let a = ap length is in let b = length-append new (x ∷ []) in omega arith

  all_shorter : (k : ℕ) (olds news : List (List X)) (row : List X) → AllLong (suc k) olds → TakesLast olds news row → AllLong k news
  all_shorter k [] [] [] l t = tt
  all_shorter k [] [] (x ∷ xs) l t = absurd t
  all_shorter k [] (n ∷ news) row l t = absurd t
  all_shorter k (o ∷ olds) [] row l t = absurd t
  all_shorter k (o ∷ olds) (n ∷ news) [] l t = absurd t
  all_shorter k (o ∷ olds) (n ∷ news) (x ∷ xs) l t = (shorter k o n x t.0 l.0, all_shorter k olds news xs l.1 t.1)

  last_column : (k : ℕ) (olds news : List (List X)) (row : List X) → AllLong (suc k) olds → TakesLast olds news row → IsColumn k olds row
  last_column k [] [] [] l t = tt
  last_column k [] [] (x ∷ xs) l t = absurd t
  last_column k [] (n ∷ news) row l t = absurd t
  last_column k (o ∷ olds) [] row l t = absurd t
  last_column k (o ∷ olds) (n ∷ news) [] l t = absurd t
  last_column k (o ∷ olds) (n ∷ news) (x ∷ xs) l t = (ap (λ (r : List X). slice_get r k) t.0 ∙ at_last n x k (shorter k o n x t.0 l.0), last_column k olds news xs l.1 t.1)

  front_column : (j : ℕ) (olds news : List (List X)) (row r : List X) → TakesLast olds news row → IsColumn j news r → IsColumn j olds r
  front_column j [] [] [] r t c = c
  front_column j [] [] (x ∷ xs) r t c = absurd t
  front_column j [] (n ∷ news) row r t c = absurd t
  front_column j (o ∷ olds) [] row r t c = absurd t
  front_column j (o ∷ olds) (n ∷ news) [] r t c = absurd t
  front_column j (o ∷ olds) (n ∷ news) (x ∷ xs) [] t c = absurd c
  front_column j (o ∷ olds) (n ∷ news) (x ∷ xs) (y ∷ ys) t c = (ap (λ (r : List X). slice_get r j) t.0 ∙ before_last n x y j c.0, front_column j olds news xs ys t.1 c.1)

  pub rows_are_columns : RowsAreColumns X
  rows_are_columns k olds news row long takes = (all_shorter k olds news row long takes, last_column k olds news row long takes, λ j r lt c. front_column j olds news row r takes c)
