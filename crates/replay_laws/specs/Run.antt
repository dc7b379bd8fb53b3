-- Lists of steps.
use Rattle.std.specs.Prelude.{◌≡◌, ℕ, ◌+◌, length, List, [], ◌∷◌, ◌++◌, Option, Some, None}
use Rattle.order_laws.specs.Kinds.{Kinds}
use Rattle.order_laws.specs.Rules.{Rules}
use Rattle.replay_laws.specs.World.{World}
use Rattle.replay_laws.specs.Step.{Step}
use Rattle.replay_laws.specs.Next.{next}

module _ {K : Kinds} where
  abbrev pub or_same : World K → Option (World K) → World K
  or_same w None = w
  or_same w (Some v) = v

  -- The world after a list of steps: those that aren't possible are skipped.
  abbrev pub run : Rules K → World K → List Step → World K
  run R w [] = w
  run R w (s ∷ ss) = run R (or_same w (next R w s)) ss

  abbrev pub skip_if : ℕ → Option (World K) → List ℕ
  skip_if i None = i ∷ []
  skip_if i (Some w) = []

  -- the places of the steps that weren't possible, the first step's being i
  abbrev pub skipped_from : Rules K → World K → ℕ → List Step → List ℕ
  skipped_from R w i [] = []
  skipped_from R w i (s ∷ ss) = skip_if i (next R w s) ++ skipped_from R (or_same w (next R w s)) (i + 1) ss

-- Steps one after the other: what a list of steps does, and which of them aren't possible, doesn't depend on what comes later.
pub record IsStepwise {K : Kinds} (R : Rules K) (w : World K) (before : List Step) (s : Step) (after : List Step) : Type 0 where
  pub world : run R w (before ++ s ∷ after) ≡ run R (or_same (run R w before) (next R (run R w before) s)) after
  pub skips :
      (i : ℕ) →
      skipped_from R w i (before ++ s ∷ after) ≡
      skipped_from R w i before ++ (skip_if (i + length before) (next R (run R w before) s) ++ skipped_from R (or_same (run R w before) (next R (run R w before) s)) (i + length before + 1) after)

abbrev pub RunsStepwise : Kinds → Type 0
RunsStepwise K = (R : Rules K) (w : World K) (before : List Step) (s : Step) (after : List Step) → IsStepwise R w before s after
