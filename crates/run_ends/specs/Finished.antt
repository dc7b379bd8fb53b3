-- The ends of pipes, by workers, once these have ended; and pipes that can be settled.
use Rattle.std.specs.Prelude.{◌≡◌, ℕ, suc, Bool, List, [], ◌∷◌, length}
use Rattle.ruled_pipe.specs.Producer.{Sender}
use Rattle.ruled_pipe.specs.Consumer.{Taker}
use Rattle.ruled_pipe.specs.Pipe.{Keeping, Shape, shape_of}
use Rattle.run_ends.specs.Settled.{AreFinished, AreTaken, IsDone, IsEnded}

module _ {T : Type 0} where
  -- the workers' producers, from worker p on
  abbrev pub AreRows : (uses : ℕ → Bool) → ℕ → List Shape → List (List (Sender T)) → Type 0
  AreRows uses p shapes [] = Unit {0}
  AreRows uses p shapes (r ∷ rows) = AreFinished uses 0 p shapes r × AreRows uses (suc p) shapes rows

  -- some pipes are used, and all their workers have ended
  pub record HaveFinished (shapes : List Shape) (rows : List (List (Sender T))) (takers : List (Taker T)) : Type 0 where
    pub uses : ℕ → Bool
    pub theirs : AreRows uses 0 shapes rows
    pub taken : AreTaken uses 0 (length rows) shapes takers

  -- a pipe that took back all its producers, which have ended, or which is not used
  abbrev pub IsReady : Keeping T → Taker T → Type 0
  IsReady o t = (o.made ≡ o.producers) × ((used : Bool) × IsEnded used (shape_of o) o.senders t)

  abbrev pub AreReady : List (Keeping T) → List (Taker T) → Type 0
  AreReady [] [] = Unit {0}
  AreReady (o ∷ os) (t ∷ ts) = IsReady o t × AreReady os ts
  AreReady _ _ = ⊥

  abbrev pub AreDone : List (Keeping T) → List (Taker T) → Type 0
  AreDone [] [] = Unit {0}
  AreDone (o ∷ os) (t ∷ ts) = IsDone (shape_of o) o.senders t × AreDone os ts
  AreDone _ _ = ⊥
