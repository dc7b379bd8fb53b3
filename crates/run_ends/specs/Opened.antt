-- Pipes of one kind, from which the workers get their producers one by one.
use Rattle.std.specs.Prelude.{◌≡◌, ℕ, zero, suc, List, [], ◌∷◌, length, map}
use Rattle.ruled_pipe.specs.Producer.{Sender, new_sender}
use Rattle.ruled_pipe.specs.Consumer.{Taker}
use Rattle.ruled_pipe.specs.Pipe.{Keeping, Shape, one_made}
use Rattle.run_ends.specs.Rows.{AreFor, AreWideAs, new_takers}

module _ {X Y : Type 0} (makes : ℕ → X → Y → Type 0) where
  -- these were made one of each, by its place, from place k on
  abbrev pub AreMadeOf : ℕ → List X → List Y → Type 0
  AreMadeOf k [] [] = Unit {0}
  AreMadeOf k (x ∷ xs) (y ∷ ys) = makes k x y × AreMadeOf (suc k) xs ys
  AreMadeOf k _ _ = ⊥

module _ {T : Type 0} where
  -- pipes of which k producers each were made, and none is back
  abbrev pub made_pipe : ℕ → Shape → Keeping T
  made_pipe k s = record { pipe = s.pipe; producers = s.producers; capacity = s.capacity; made = k; senders = [] }

  abbrev pub made_pipes : ℕ → List Shape → List (Keeping T)
  made_pipes k ss = map (made_pipe k) ss

  -- so many new pipes for n producers each, of the capacities of their places, and their consumers
  pub record AreNewPipes (capacity : ℕ → ℕ) (n count : ℕ) (os : List (Keeping T)) (ts : List (Taker T)) : Type 0 where
    pub shapes : List Shape
    pub pipes : os ≡ made_pipes 0 shapes
    pub takers : ts ≡ new_takers shapes
    pub producers : AreFor n shapes
    pub wide : AreWideAs capacity 0 shapes
    pub counted : length shapes ≡ count

  -- the next producer of a pipe
  abbrev pub next_end : Keeping T → Sender T
  next_end o = new_sender o.pipe o.made o.producers o.capacity

  -- after one more was made of each of the first k, and these
  abbrev pub minted : ℕ → List (Keeping T) → List (Keeping T)
  minted zero os = os
  minted (suc k) [] = []
  minted (suc k) (o ∷ os) = one_made o ∷ minted k os

  abbrev pub minted_ends : ℕ → List (Keeping T) → List (Sender T)
  minted_ends zero os = []
  minted_ends (suc k) [] = []
  minted_ends (suc k) (o ∷ os) = next_end o ∷ minted_ends k os
