-- The whole pipe, once its ends are gathered.
use Rattle.std.specs.Prelude.{◌≡◌, ℕ, ◌≤◌, List, [], ◌∷◌, ◌++◌, length, slice_get, Some, ◌+◌, sum_by}
use Rattle.ruled_pipe.specs.declared.entry.Entry.{Entry}
use Rattle.ruled_pipe.specs.declared.entry.Load.{Load}
use Rattle.ruled_pipe.specs.declared.entry.Load.TheVariants.{Payload, Marked}
use Rattle.ruled_pipe.specs.declared.entry.Mark.TheVariants.{Close, End}
use Rattle.ruled_pipe.specs.Rule.{of_producer}
use Rattle.ruled_pipe.specs.Producer.{Sender, AllFull}
use Rattle.ruled_pipe.specs.Consumer.{Taker}

-- what the ends had seen: the producers in the order of their numbers, and the consumer
pub record Views (T : Type 0) : Type 0 where
  pub senders : List (Sender T)
  pub taker : Taker T

module _ {T : Type 0} where
  abbrev pub views : List (Sender T) → Taker T → Views T
  views senders taker = record { senders = senders; taker = taker }

  -- The whole pipe. What was ever pushed is what was taken and then what is held
  pub record IsWhole (capacity : ℕ) (senders : List (Sender T)) (taken held : List (Entry T)) : Type 0 where
    -- no more are held than the capacity
    pub room : length held ≤ capacity
    -- each producer's entries in it are its accepted offers, in order
    pub ordered : (p : ℕ) (s : Sender T) → slice_get senders p ≡ Some s → of_producer p (taken ++ held) ≡ s.offers
    -- there are no other entries
    pub carried : (p : ℕ) → length senders ≤ p → of_producer p (taken ++ held) ≡ []
    -- each refusal met a queue that held as many as its capacity, among which and what was taken before were just the producer's offers accepted before
    pub refused : (p : ℕ) (s : Sender T) → slice_get senders p ≡ Some s → AllFull (length senders) p capacity s.offers s.refusals

  abbrev pub end_of : Load T → ℕ
  end_of (Payload x) = 0
  end_of (Marked Close) = 0
  end_of (Marked End) = 1

  -- how many end marks stand in a list
  abbrev pub ends_in : List (Entry T) → ℕ
  ends_in [] = 0
  ends_in (e ∷ es) = end_of e.load + ends_in es

  -- the last offer is an end mark, and the only one
  abbrev pub EndsWithMark : List (Entry T) → Type 0
  EndsWithMark offers = (front : List (Entry T)) × (last : Entry T) × (offers ≡ front ++ last ∷ []) × (ends_in front ≡ 0) × (end_of last.load ≡ 1)

  abbrev pub EachEndsWithMark : List (Sender T) → Type 0
  EachEndsWithMark senders = (p : ℕ) (s : Sender T) → slice_get senders p ≡ Some s → EndsWithMark s.offers

  -- What was taken is all that was accepted
  pub record IsSettled (senders : List (Sender T)) (taken : List (Entry T)) : Type 0 where
    -- for each producer, in its order
    pub ordered : (p : ℕ) (s : Sender T) → slice_get senders p ≡ Some s → of_producer p taken ≡ s.offers
    -- of nobody else
    pub carried : (p : ℕ) → length senders ≤ p → of_producer p taken ≡ []
    -- and in sum
    pub counted : length taken ≡ sum_by (λ (s : Sender T). length s.offers) senders
