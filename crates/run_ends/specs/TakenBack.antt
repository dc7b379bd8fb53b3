-- Pipes that take back the producers of one worker after another.
use Rattle.std.specs.Prelude.{◌≡◌, ℕ, suc, List, [], ◌∷◌, map}
use Rattle.order_laws.specs.Deeds.{Each}
use Rattle.ruled_pipe.specs.Producer.{Sender}
use Rattle.ruled_pipe.specs.Pipe.{Keeping, Shape, shape_of, took_back, IsNext}
use Rattle.worker_laws.specs.Workers.{IsColumn}

module _ {T : Type 0} where
  -- a pipe of which all producers were made, and these are back
  abbrev pub back_pipe : List (Sender T) → Shape → Keeping T
  back_pipe row s = record { pipe = s.pipe; producers = s.producers; capacity = s.capacity; made = s.producers; senders = row }

  -- one of each pipe, the next to be taken back
  abbrev pub AreNext : List (Sender T) → List (Keeping T) → Type 0
  AreNext [] [] = Unit {0}
  AreNext (s ∷ ss) (o ∷ os) = IsNext o s × AreNext ss os
  AreNext _ _ = ⊥

  -- after these were taken back, one of each of the first pipes
  abbrev pub after_row : List (Sender T) → List (Keeping T) → List (Keeping T)
  after_row [] os = os
  after_row (s ∷ ss) [] = []
  after_row (s ∷ ss) (o ∷ os) = took_back o s ∷ after_row ss os

  -- what was taken back of the pipes from number j on is their column of these rows, one row a worker
  abbrev pub AreColumns : ℕ → List (List (Sender T)) → List (Keeping T) → Type 0
  AreColumns j rows [] = Unit {0}
  AreColumns j rows (o ∷ os) = IsColumn j rows o.senders × AreColumns (suc j) rows os

  -- of these pipes all producers were made, and the workers' are back, one row a worker
  pub record HaveBack (rows : List (List (Sender T))) (shapes : List Shape) (os : List (Keeping T)) : Type 0 where
    pub own : map shape_of os ≡ shapes
    pub made : Each (λ (o : Keeping T). o.made ≡ o.producers) os
    pub columns : AreColumns 0 rows os
