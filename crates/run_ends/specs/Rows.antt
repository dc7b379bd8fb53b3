-- The ends of many pipes, by workers.
use Rattle.std.specs.Prelude.{◌≡◌, ℕ, suc, List, [], ◌∷◌, map}
use Rattle.ruled_pipe.specs.Producer.{Sender, new_sender}
use Rattle.ruled_pipe.specs.Consumer.{Taker, new_taker}
use Rattle.ruled_pipe.specs.Pipe.{Shape, IsEndOf}

-- all pipes have this number of producers
abbrev pub AreFor : ℕ → List Shape → Type 0
AreFor producers [] = Unit {0}
AreFor producers (s ∷ ss) = (s.producers ≡ producers) × AreFor producers ss

-- each pipe holds the number of entries of its place, from place k on
abbrev pub AreWideAs : (ℕ → ℕ) → ℕ → List Shape → Type 0
AreWideAs capacity k [] = Unit {0}
AreWideAs capacity k (s ∷ ss) = (s.capacity ≡ capacity k) × AreWideAs capacity (suc k) ss

-- all pipes hold this number of entries
abbrev pub AreWide : ℕ → List Shape → Type 0
AreWide capacity ss = AreWideAs (λ _. capacity) 0 ss

module _ {T : Type 0} where
  -- the producer of this number of a new pipe
  abbrev pub fresh_end : ℕ → Shape → Sender T
  fresh_end p s = new_sender s.pipe p s.producers s.capacity

  -- what worker p gets of new pipes: of each, in order, the producer of number p
  abbrev pub fresh_ends : ℕ → List Shape → List (Sender T)
  fresh_ends p ss = map (fresh_end p) ss

  -- the consumers of new pipes
  abbrev pub taker_of : Shape → Taker T
  taker_of s = new_taker s.pipe s.producers s.capacity

  abbrev pub new_takers : List Shape → List (Taker T)
  new_takers ss = map taker_of ss

  -- producer p of each pipe, in order
  abbrev pub AreEndsOf : ℕ → List Shape → List (Sender T) → Type 0
  AreEndsOf p [] [] = Unit {0}
  AreEndsOf p (s ∷ ss) (e ∷ es) = IsEndOf s p e × AreEndsOf p ss es
  AreEndsOf p _ _ = ⊥
