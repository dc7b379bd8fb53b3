-- What a receiver does in one turn, and the law that it keeps.
use Rattle.std.specs.Prelude.{◌≡◌, ℕ, List, length, Some, None, slice_get}
use Rattle.ruled_pipe.specs.Producer.{Sender}
use Rattle.order_laws.specs.Kinds.{Kinds}
use Rattle.order_laws.specs.Item.{Arrival}
use Rattle.order_laws.specs.Rules.{Rules}
use Rattle.order_laws.specs.Counts.{total}
use Rattle.order_laws.specs.Deeds.{Each, Deed, Ending, Accepted, Refused, Lacked, Counted, if_counted, done_items}
use Rattle.order_laws.specs.Settled.{to_processor, AreNumbered}
use Rattle.worker_laws.specs.Ends.{EndTells, IsGrown}

module _ {C : Type 0} where
  abbrev pub unless_counted : Ending C → Type 0 → Type 0
  unless_counted Accepted P = P
  unless_counted Refused P = P
  unless_counted Lacked P = P
  unless_counted (Counted c) P = Unit {0}

module _ {K : Kinds} where
  abbrev pub IsSeen : Rules K → Deed K.RuleCause (Arrival K) → Type 0
  IsSeen R d = if_counted d.end (λ c. R.inspect d.item ≡ Some c)

  -- all but what was counted for its fault has none: what was offered, and what lacked a buffer
  abbrev pub IsClear : Rules K → Deed K.RuleCause (Arrival K) → Type 0
  IsClear R d = unless_counted d.end (R.inspect d.item ≡ None)

module _ {C : Type 0} where
  abbrev pub was_lacked : Ending C → ℕ
  was_lacked Accepted = 0
  was_lacked Refused = 0
  was_lacked Lacked = 1
  was_lacked (Counted c) = 0

module _ {C X : Type 0} where
  -- how many were dropped for want of a buffer
  abbrev pub lacks : List (Deed C X) → ℕ
  lacks log = total (λ d. was_lacked d.end) log

-- One datagram worked on: every processor's end grew by what was made of it.
pub record Passed {K : Kinds} (R : Rules K) (d : Deed K.RuleCause (Arrival K)) (old new : List (Sender (Arrival K))) : Type 0 where
  pub just : IsSeen R d
  pub clear : IsClear R d
  pub ends : (i : ℕ) (t : Sender (Arrival K)) → slice_get new i ≡ Some t → (s : Sender (Arrival K)) × (slice_get old i ≡ Some s) × IsGrown (to_processor R i) d s t
  pub same : length new ≡ length old

-- what the receiver of link a keeps: its datagrams are numbered from 1 on
pub record KeepsReceiver {K : Kinds} (R : Rules K) (a : ℕ) (log : List (Deed K.RuleCause (Arrival K))) (senders : List (Sender (Arrival K))) : Type 0 where
  pub numbered : AreNumbered a 1 (done_items log)
  pub just : Each (IsSeen R) log
  pub clear : Each (IsClear R) log
  pub ends : (i : ℕ) (s : Sender (Arrival K)) → slice_get senders i ≡ Some s → EndTells (to_processor R i) log s
