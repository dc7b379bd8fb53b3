-- The pipes, once their workers have ended.
use Rattle.std.specs.Prelude.{◌≡◌, ◌≤◌, ℕ, suc, Bool, true, false, List, [], ◌∷◌, length}
use Rattle.ruled_pipe.specs.declared.entry.Entry.{Entry}
use Rattle.ruled_pipe.specs.Producer.{Sender}
use Rattle.ruled_pipe.specs.Consumer.{Taker}
use Rattle.ruled_pipe.specs.Pipe.{Shape, IsEndOf}
use Rattle.ruled_pipe.specs.Gathered.{IsWhole, EndsWithMark, ends_in}
use Rattle.worker_laws.specs.Ends.{pushes}
use Rattle.worker_laws.specs.Gathers.{IsDrained, TookAll}
use Rattle.worker_laws.specs.Workers.{IsColumn}

module _ {T : Type 0} where
  -- of a pipe that is used a producer's last offer is its only end mark; of one that isn't it has offered nothing
  abbrev pub IsFinal : Bool → List (Entry T) → Type 0
  IsFinal true offers = EndsWithMark offers
  IsFinal false offers = offers ≡ []

  -- producer p of each pipe from number k on, which has ended
  abbrev pub AreFinished : (uses : ℕ → Bool) → (k p : ℕ) → List Shape → List (Sender T) → Type 0
  AreFinished uses k p [] [] = Unit {0}
  AreFinished uses k p (s ∷ ss) (e ∷ es) = (IsEndOf s p e × IsFinal (uses k) e.offers) × AreFinished uses (suc k) p ss es
  AreFinished uses k p _ _ = ⊥

  -- the producers of one pipe, from number p on, which have ended
  abbrev pub AreOfPipe : Bool → ℕ → Shape → List (Sender T) → Type 0
  AreOfPipe used p s [] = Unit {0}
  AreOfPipe used p s (e ∷ es) = (IsEndOf s p e × IsFinal used e.offers) × AreOfPipe used (suc p) s es

  -- the consumer of this pipe, which took as many end marks as there are producers where it is used
  pub record HasTaken (used : Bool) (s : Shape) (t : Taker T) : Type 0 where
    pub pipe : t.pipe ≡ s.pipe
    pub producers : t.producers ≡ s.producers
    pub capacity : t.capacity ≡ s.capacity
    pub taken : used ≡ true → s.producers ≤ ends_in t.taken

  -- the consumers of the pipes from number k on, which have n producers each
  abbrev pub AreTaken : (uses : ℕ → Bool) → (k n : ℕ) → List Shape → List (Taker T) → Type 0
  AreTaken uses k n [] [] = Unit {0}
  AreTaken uses k n (s ∷ ss) (t ∷ ts) = ((s.producers ≡ n) × HasTaken (uses k) s t) × AreTaken uses (suc k) n ss ts
  AreTaken uses k n _ _ = ⊥

  -- the producers and the consumer of one pipe, which have ended
  pub record IsEnded (used : Bool) (s : Shape) (senders : List (Sender T)) (t : Taker T) : Type 0 where
    pub count : length senders ≡ s.producers
    pub ends : AreOfPipe used 0 s senders
    pub taker : HasTaken used s t

  -- What is known of a pipe in the end: all that was accepted was taken, nothing is held, and each refusal is as one at a full queue, as far as its producer's own pushes tell
  pub record IsDone (s : Shape) (senders : List (Sender T)) (t : Taker T) : Type 0 where
    pub whole : (held : List (Entry T)) × IsWhole s.capacity senders t.taken held
    pub drained : (held : List (Entry T)) → IsWhole s.capacity senders t.taken held → IsDrained s.capacity senders t.taken held
    pub took : TookAll senders (pushes t.taken)

  -- pipe k of these rows, one row a worker: its producers are one of each row
  pub record IsSettledAt (k : ℕ) (rows : List (List (Sender T))) (s : Shape) (t : Taker T) : Type 0 where
    pub row : List (Sender T)
    pub column : IsColumn k rows row
    pub done : IsDone s row t

  -- all pipes of these rows, from number k on
  abbrev pub AreSettled : ℕ → List (List (Sender T)) → List Shape → List (Taker T) → Type 0
  AreSettled k rows [] [] = Unit {0}
  AreSettled k rows (s ∷ ss) (t ∷ ts) = IsSettledAt k rows s t × AreSettled (suc k) rows ss ts
  AreSettled k rows _ _ = ⊥
