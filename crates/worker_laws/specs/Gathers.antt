-- The first pass: the gathered ends of a pipe that has settled, as the pipeline's laws read them.
use Rattle.std.specs.Prelude.{◌≡◌, ◌<◌, ◌≤◌, ℕ, zero, suc, false, List, [], ◌∷◌, ◌++◌, length, Some, slice_get}
use Rattle.ruled_pipe.specs.declared.entry.Entry.{Entry}
use Rattle.ruled_pipe.specs.Producer.{Sender, AllFull}
use Rattle.ruled_pipe.specs.Gathered.{IsWhole, EachEndsWithMark, ends_in}
use Rattle.order_laws.specs.Deeds.{Pushed, of_producer, has_mark}
use Rattle.worker_laws.specs.Ends.{pushes, refusals_in}

module _ {X : Type 0} where
  -- the accepted pushes of the producer of this number
  abbrev pub offers_at : List (Sender X) → ℕ → List (Pushed X)
  offers_at [] k = []
  offers_at (s ∷ ss) zero = pushes s.offers
  offers_at (s ∷ ss) (suc k) = offers_at ss k

  -- what was taken is, of each producer, what it had accepted, and of nobody else
  abbrev pub TookAll : List (Sender X) → List (Pushed X) → Type 0
  TookAll senders taken = ((p : ℕ) → p < length senders → of_producer p taken ≡ offers_at senders p) × ((p : ℕ) → length senders ≤ p → of_producer p taken ≡ [])

  -- the payloads of its refused pushes
  abbrev pub refusals_at : List (Sender X) → ℕ → List X
  refusals_at [] k = []
  refusals_at (s ∷ ss) zero = refusals_in s.refusals
  refusals_at (s ∷ ss) (suc k) = refusals_at ss k

-- What holds of a pipe whose ends were gathered: nothing is held, and each refusal is as one at a full queue, as far as its producer's own pushes tell
pub record IsDrained {X : Type 0} (capacity : ℕ) (senders : List (Sender X)) (taken held : List (Entry X)) : Type 0 where
  pub empty : held ≡ []
  pub all : TookAll senders (pushes taken)
  pub full : (p : ℕ) (s : Sender X) → slice_get senders p ≡ Some s → AllFull (length senders) p capacity s.offers s.refusals

-- Where each producer's last push is its only end mark, and the consumer took as many as there are producers.
abbrev pub Drains : Type 0 → Type 0
Drains X = (capacity : ℕ) (senders : List (Sender X)) (taken held : List (Entry X)) → IsWhole capacity senders taken held → EachEndsWithMark senders → length senders ≤ ends_in taken → IsDrained capacity senders taken held

-- Where nobody pushed anything.
abbrev pub StaysEmpty : Type 0 → Type 0
StaysEmpty X =
    (capacity : ℕ) (senders : List (Sender X)) (taken held : List (Entry X)) → IsWhole capacity senders taken held → ((p : ℕ) (s : Sender X) → slice_get senders p ≡ Some s → s.offers ≡ [])
    → (taken ≡ []) × IsDrained capacity senders taken held

-- Where only the last producer ever pushed a closing mark, one was taken where it pushed one.
abbrev pub ClosesByLast : Type 0 → Type 0
ClosesByLast X =
    (senders : List (Sender X)) (last : Sender X) (taken : List (Pushed X)) → TookAll (senders ++ last ∷ []) taken → ((p : ℕ) (s : Sender X) → slice_get senders p ≡ Some s → has_mark (pushes s.offers) ≡ false)
    → has_mark taken ≡ has_mark (pushes last.offers)
