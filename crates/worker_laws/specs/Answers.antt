-- What the slow path does in one turn, and the law that it keeps.
use Rattle.std.specs.Prelude.{◌≡◌, ◌==◌, ℕ, true, List, [], ◌∷◌, length, Some, slice_get}
use Rattle.ruled_pipe.specs.Producer.{Sender}
use Rattle.ruled_pipe.specs.Consumer.{Taker}
use Rattle.order_laws.specs.Kinds.{Kinds}
use Rattle.order_laws.specs.Item.{Outgoing, Out}
use Rattle.order_laws.specs.Rules.{Rules, Reply, Replies, Withholds}
use Rattle.order_laws.specs.Pipes.{home}
use Rattle.order_laws.specs.Deeds.{Pushed, payloads, Each, Deed, if_counted, done_items, Tells}
use Rattle.order_laws.specs.Settled.{SlowPathRequest, if_so, IsLinkPipe}
use Rattle.order_laws.specs.Counted.{is_offer, place_of}
use Rattle.worker_laws.specs.Ends.{pushes, EndTells, IsGrown}
use Rattle.worker_laws.specs.Works.{LacksNothing}

module _ {K : Kinds} where
  abbrev pub answer_to : SlowPathRequest K → ℕ → K.Parcel → Outgoing K
  answer_to q l y = record { arrived = q.arrival.link; number = q.arrival.number; answer = true; link = l; parcel = y }

  abbrev pub replied_out : Rules K → ℕ → SlowPathRequest K → Reply K → List (Outgoing K)
  replied_out R q x (Replies l y) = if_so (home R (Out (answer_to x l y)) == q) (answer_to x l y ∷ [])
  replied_out R q x (Withholds c) = []

  -- for the leaving link's pipe at place q
  abbrev pub to_back : Rules K → ℕ → SlowPathRequest K → List (Outgoing K)
  to_back R q x = replied_out R q x (R.reply x.arrival x.problem)

  abbrev pub is_answered : Reply K → Type 0
  is_answered (Replies l y) = Unit {0}
  is_answered (Withholds c) = ⊥

  -- nothing was offered but the reply
  abbrev pub IsAnswered : Rules K → Deed K.RuleCause (SlowPathRequest K) → Type 0
  IsAnswered R d = is_offer d.end (is_answered (R.reply d.item.arrival d.item.problem))

  abbrev pub IsWithheld : Rules K → Deed K.RuleCause (SlowPathRequest K) → Type 0
  IsWithheld R d = if_counted d.end (λ c. R.reply d.item.arrival d.item.problem ≡ Withholds c)

-- One request worked on: every link's end grew by what was made of it.
pub record Answered {K : Kinds} (R : Rules K) (d : Deed K.RuleCause (SlowPathRequest K)) (old new : List (Sender (Outgoing K))) : Type 0 where
  pub just : IsWithheld R d
  pub answered : IsAnswered R d
  pub ample : LacksNothing d.end
  pub links : (j : ℕ) (t : Sender (Outgoing K)) → slice_get new j ≡ Some t
      → (s : Sender (Outgoing K)) × (slice_get old j ≡ Some s) × IsGrown (to_back R (place_of R j)) d s t
  pub same : length new ≡ length old

-- What the slow path did with the requests that it took is what its ends tell.
pub record KeepsAnswers {K : Kinds} (R : Rules K) (log : List (Deed K.RuleCause (SlowPathRequest K))) (taker : Taker (SlowPathRequest K)) (senders : List (Sender (Outgoing K))) : Type 0 where
  pub took : payloads (pushes taker.taken) ≡ done_items log
  pub just : Each (IsWithheld R) log
  pub answered : Each (IsAnswered R) log
  pub ample : Each (λ (d : Deed K.RuleCause (SlowPathRequest K)). LacksNothing d.end) log
  pub links : (j : ℕ) (s : Sender (Outgoing K)) → slice_get senders j ≡ Some s → EndTells (to_back R (place_of R j)) log s

-- The same over the gathered views.
pub record SlowLaw {K : Kinds} (R : Rules K) (log : List (Deed K.RuleCause (SlowPathRequest K))) (taken : List (Pushed (SlowPathRequest K))) (offers : ℕ → List (Pushed (Outgoing K))) (refusals : ℕ → List (Outgoing K)) : Type 0 where
  pub took : payloads taken ≡ done_items log
  pub just : Each (IsWithheld R) log
  pub answered : Each (IsAnswered R) log
  pub tells : (q : ℕ) → IsLinkPipe R q → Tells (to_back R q) log (offers q) (refusals q)
