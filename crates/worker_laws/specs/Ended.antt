-- What holds of a running pipeline that has ended: the premises that the workers give, and what follows.
use Rattle.std.specs.Prelude.{◌≡◌, ◌<◌, ◌≤◌, ◌+◌, ◌*◌, ℕ, Bool, true, false, List, [], ◌++◌}
use Rattle.order_laws.specs.Kinds.{Kinds}
use Rattle.order_laws.specs.Item.{Arrival, Outgoing, Out}
use Rattle.order_laws.specs.Rules.{Rules, Sends, Asks, Replies, IsLawful}
use Rattle.order_laws.specs.Pipes.{home, link_pipe}
use Rattle.order_laws.specs.Deeds.{payloads, of_producer, Each, Deed}
use Rattle.order_laws.specs.Settled.{SlowPathRequest, Views, IsTold, IsLinkPipe, Settled, SettlesInOrder}
use Rattle.order_laws.specs.Counted.{SlowViews, place_of, link_pipes}
use Rattle.worker_laws.specs.Works.{IsOffered, LacksNothing}
use Rattle.worker_laws.specs.Answers.{SlowLaw}
use Rattle.worker_laws.specs.Receives.{IsClear}
use Rattle.worker_laws.specs.Forwards.{Handed, handed_items, WentOn}
use Rattle.worker_laws.specs.Weighed.{IsPlaced}

-- ---- the premises, over the gathered views; closed tells which of the links' pipes were closed, link l's at 2 * l and, of the
-- high band, at 2 * l + 1

pub record Ended {K : Kinds} (R : Rules K) (v : Views K) (s : SlowViews K) (went : ℕ → List (Handed K)) (closed : ℕ → Bool) : Type 0 where
  pub settled : Settled R v
  pub clear : (p : ℕ) → p < R.links → Each (IsClear R) (v.received p)
  pub offered : (i : ℕ) → i < R.processors → Each (IsOffered R) (v.worked i)
  pub slow : SlowLaw R s.worked s.taken s.leaving s.leaving_full
  pub requests : (i : ℕ) → i < R.processors → of_producer i s.taken ≡ v.asked i
  pub request_only : (i : ℕ) → R.processors ≤ i → of_producer i s.taken ≡ []
  pub egress_slow : (j : ℕ) → j < link_pipes R → of_producer R.processors (v.forwarded (place_of R j)) ≡ s.leaving (place_of R j)
  pub egress_marks : (j : ℕ) → j < link_pipes R → payloads (of_producer (R.processors + 1) (v.forwarded (place_of R j))) ≡ []
  pub egress_none : (j p : ℕ) → j < link_pipes R → R.processors + 2 ≤ p → of_producer p (v.forwarded (place_of R j)) ≡ []
  pub sinks : (l : ℕ) → l < R.links → WentOn (v.forwarded (link_pipe R false l)) (v.forwarded (link_pipe R true l)) (handed_items (went l))
  -- who closed: the controller alone, each band by a mark of its own
  pub low_shut : (l : ℕ) → l < R.links → v.shut (link_pipe R false l) ≡ closed (2 * l)
  pub high_shut : (l : ℕ) → l < R.links → v.shut (link_pipe R true l) ≡ closed (2 * l + 1)
  -- from the pool of buffers on processors and the slow path lack nothing
  pub unlacked : (i : ℕ) → i < R.processors → Each (λ (d : Deed K.RuleCause (Arrival K)). LacksNothing d.end) (v.worked i)
  pub unlacked_slow : Each (λ (d : Deed K.RuleCause (SlowPathRequest K)). LacksNothing d.end) s.worked

-- ---- what follows

module _ {K : Kinds} where
  -- an answer is the reply to the problem that was decided for a packet of its name
  abbrev pub IsAnswerTo : Rules K → Views K → Outgoing K → Type 0
  IsAnswerTo R v o =
      o.answer ≡ true → (x : Arrival K) × (p : K.Problem) × IsTold v x × (R.decide x ≡ Asks p) × (R.reply x p ≡ Replies o.link o.parcel) × (x.link ≡ o.arrived) × (x.number ≡ o.number)

  -- a packet that leaves is its arrival's
  abbrev pub IsPacketOf : Rules K → Views K → Outgoing K → Type 0
  IsPacketOf R v o = o.answer ≡ false → (x : Arrival K) × IsTold v x × (R.decide x ≡ Sends o.link o.parcel) × (x.link ≡ o.arrived) × (x.number ≡ o.number)

pub record HasEnded {K : Kinds} (R : Rules K) (v : Views K) (s : SlowViews K) (went : ℕ → List (Handed K)) (closed : ℕ → Bool) : Type 0 where
  pub order : SettlesInOrder R v
  pub place : (w : (link number : ℕ) → ℕ) → IsPlaced w R v s
  pub packets : (q : ℕ) → IsLinkPipe R q → Each (IsPacketOf R v) (v.handed q ++ v.swept q)
  pub answers : (q : ℕ) → IsLinkPipe R q → Each (IsAnswerTo R v) (v.handed q ++ v.swept q)
  -- each in the pipe of its link and its band
  pub own_pipe : (q : ℕ) → IsLinkPipe R q → Each (λ (o : Outgoing K). home R (Out o) ≡ q) (v.handed q ++ v.swept q)
  -- of each closed band the mark was taken, of no other one
  pub low_shut : (l : ℕ) → l < R.links → v.shut (link_pipe R false l) ≡ closed (2 * l)
  pub high_shut : (l : ℕ) → l < R.links → v.shut (link_pipe R true l) ≡ closed (2 * l + 1)
  -- of a band that was never closed nothing is swept
  pub low_open : (l : ℕ) → l < R.links → closed (2 * l) ≡ false → v.swept (link_pipe R false l) ≡ []
  pub high_open : (l : ℕ) → l < R.links → closed (2 * l + 1) ≡ false → v.swept (link_pipe R true l) ≡ []

-- Of workers that keep their laws over pipes that hold nothing any more.
abbrev pub Ends : Kinds → Type 0
Ends K = (R : Rules K) (v : Views K) (s : SlowViews K) (went : ℕ → List (Handed K)) (closed : ℕ → Bool) → IsLawful R (IsTold v) → Ended R v s went closed → HasEnded R v s went closed
