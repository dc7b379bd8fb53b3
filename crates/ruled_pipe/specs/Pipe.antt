-- What contracts see of a pipe, and of all its ends together.
use Rattle.std.specs.Prelude.{◌≡◌, ℕ, ◌+◌, List, [], ◌∷◌, ◌++◌, length, map, slice_get, Some}
use Rattle.atomic_table.specs.Seated.{TableId}
use Rattle.ruled_pipe.specs.declared.rule.Left.{Left}
use Rattle.ruled_pipe.specs.Producer.{Sender, AllFull, new_sender}
use Rattle.ruled_pipe.specs.Consumer.{Taker}

-- a pipe: which one, how many producers it has, and how many entries it holds at most
pub record Shape : Type 0 where
  pub pipe : TableId
  pub producers : ℕ
  pub capacity : ℕ

-- the keeper of a pipe: its pipe, how many producers this is to have, its capacity, how many were made, and those taken back, in the order of their numbers
pub record Keeping (T : Type 0) : Type 0 where
  pub pipe : TableId
  pub producers : ℕ
  pub capacity : ℕ
  pub made : ℕ
  pub senders : List (Sender T)

module _ {T : Type 0} where
  abbrev pub shape_of : Keeping T → Shape
  shape_of k = record { pipe = k.pipe; producers = k.producers; capacity = k.capacity }

  -- it, after one more producer was made, and after one more was taken back
  abbrev pub one_made : Keeping T → Keeping T
  one_made k = record { pipe = k.pipe; producers = k.producers; capacity = k.capacity; made = k.made + 1; senders = k.senders }

  abbrev pub took_back : Keeping T → Sender T → Keeping T
  took_back k s = record { pipe = k.pipe; producers = k.producers; capacity = k.capacity; made = k.made; senders = k.senders ++ s ∷ [] }

  -- a producer of its pipe, the next one to be taken back
  abbrev pub IsNext : Keeping T → Sender T → Type 0
  IsNext k s = (s.pipe ≡ k.pipe) × (s.number ≡ length k.senders) × (s.producers ≡ k.producers) × (s.capacity ≡ k.capacity)

  -- a producer that has left, by what is known of its pipe
  abbrev pub sender_of : TableId → ℕ → ℕ → Left T → Sender T
  sender_of pipe producers capacity l = record { pipe = pipe; number = l.number; producers = producers; capacity = capacity; offers = l.offers; refusals = l.refusals }

  abbrev pub keeping : TableId → ℕ → ℕ → ℕ → List (Left T) → Keeping T
  keeping pipe producers capacity made known = record { pipe = pipe; producers = producers; capacity = capacity; made = made; senders = map (sender_of pipe producers capacity) known }

  -- they left in the order of their numbers, and each refusal of theirs met a full queue
  abbrev pub AreLeft : ℕ → ℕ → List (Left T) → Type 0
  AreLeft producers capacity known = (k : ℕ) (l : Left T) → slice_get known k ≡ Some l → (l.number ≡ k) × AllFull producers l.number capacity l.offers l.refusals

  -- the producers made so far of a new pipe, in the order of their numbers
  abbrev pub AreNew : TableId → ℕ → ℕ → ℕ → List (Sender T) → Type 0
  AreNew pipe capacity producers made senders = (length senders ≡ made) × ((k : ℕ) (s : Sender T) → slice_get senders k ≡ Some s → s ≡ new_sender pipe k producers capacity)

  -- a producer of this pipe, of this number
  abbrev pub IsEndOf : Shape → ℕ → Sender T → Type 0
  IsEndOf pipe k s = (s.pipe ≡ pipe.pipe) × (s.number ≡ k) × (s.producers ≡ pipe.producers) × (s.capacity ≡ pipe.capacity)

  -- the consumer of this pipe
  abbrev pub IsTakerOf : Shape → Taker T → Type 0
  IsTakerOf pipe taker = (taker.pipe ≡ pipe.pipe) × (taker.producers ≡ pipe.producers) × (taker.capacity ≡ pipe.capacity)

  -- these are the producers and the consumer of one pipe, all of them, the producers in the order of their numbers
  abbrev pub AreAllOf : Shape → List (Sender T) → Taker T → Type 0
  AreAllOf pipe senders taker =
      (length senders ≡ pipe.producers)
      × ((k : ℕ) (s : Sender T) → slice_get senders k ≡ Some s → IsEndOf pipe k s)
      × IsTakerOf pipe taker
