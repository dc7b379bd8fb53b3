-- Of a running pipeline that has ended: why its workers counted a drop, what full pipes refused, and what sinks were handed.
use Rattle.std.specs.Prelude.{◌≡◌, ◌<◌, ℕ, Bool, false, true, List, []}
use Rattle.order_laws.specs.Kinds.{Kinds}
use Rattle.order_laws.specs.Item.{Arrival, Outgoing, Out}
use Rattle.order_laws.specs.Rules.{Rules, Asks, Drops, Withholds, IsLawful}
use Rattle.order_laws.specs.Pipes.{home, link_pipe}
use Rattle.order_laws.specs.Merge.{IsMerge}
use Rattle.order_laws.specs.Deeds.{Each, Deed, if_counted}
use Rattle.order_laws.specs.Settled.{SlowPathRequest, Views, IsTold, IsLinkPipe}
use Rattle.order_laws.specs.Counted.{SlowViews}
use Rattle.worker_laws.specs.Forwards.{Handed, handed_items}
use Rattle.worker_laws.specs.Receives.{IsClear}
use Rattle.worker_laws.specs.Ended.{Ended, IsAnswerTo, IsPacketOf}

module _ {K : Kinds} where
  -- a request is about a packet that was told, by its decision
  abbrev pub IsAskedOf : Rules K → Views K → SlowPathRequest K → Type 0
  IsAskedOf R v q = IsTold v q.arrival × (R.decide q.arrival ≡ Asks q.problem)

  -- a packet that was counted is dropped by the decision, for that reason
  abbrev pub IsDropped : Rules K → Views K → Deed K.RuleCause (Arrival K) → Type 0
  IsDropped R v d = IsTold v d.item × if_counted d.end (λ c. R.decide d.item ≡ Drops c)

  -- a request that was counted has its reply withheld, for that reason
  abbrev pub IsUnanswered : Rules K → Views K → Deed K.RuleCause (SlowPathRequest K) → Type 0
  IsUnanswered R v d = IsAskedOf R v d.item × if_counted d.end (λ c. R.reply d.item.arrival d.item.problem ≡ Withholds c)

pub record HasReasons {K : Kinds} (R : Rules K) (v : Views K) (s : SlowViews K) : Type 0 where
  pub receivers : (p : ℕ) → p < R.links → Each (IsDropped R v) (v.received p)
  pub processors : (i : ℕ) → i < R.processors → Each (IsDropped R v) (v.worked i)
  pub slow : Each (IsUnanswered R v) s.worked
  -- a receiver drops for want of a buffer, and for a full queue, only what has no fault
  pub clear : (p : ℕ) → p < R.links → Each (IsClear R) (v.received p)
  -- what was refused is what the pipe was for
  pub full_processor : (p i : ℕ) → p < R.links → i < R.processors → Each (λ (x : Arrival K). IsTold v x × (R.processor (R.key x) ≡ i)) (v.arrived_full p i)
  pub full_link : (i q : ℕ) → i < R.processors → IsLinkPipe R q → Each (λ (o : Outgoing K). IsPacketOf R v o × (home R (Out o) ≡ q)) (v.leaving_full i q)
  pub full_answer : (q : ℕ) → IsLinkPipe R q → Each (λ (o : Outgoing K). IsAnswerTo R v o × (home R (Out o) ≡ q)) (s.leaving_full q)
  pub full_slow : (i : ℕ) → i < R.processors → Each (IsAskedOf R v) (v.asked_full i)

abbrev pub GivesReasons : Kinds → Type 0
GivesReasons K = (R : Rules K) (v : Views K) (s : SlowViews K) (went : ℕ → List (Handed K)) (closed : ℕ → Bool) → IsLawful R (IsTold v) → Ended R v s went closed → HasReasons R v s

-- What the sink of a link was handed, in the order of its two pipes.
pub record HasMerged {K : Kinds} (R : Rules K) (v : Views K) (went : ℕ → List (Handed K)) (l : ℕ) : Type 0 where
  pub merged : IsMerge (v.handed (link_pipe R false l)) (v.handed (link_pipe R true l)) (handed_items (went l))
  -- a link with one band has one pipe
  pub one_band : R.two_bands l ≡ false → (handed_items (went l) ≡ v.handed (link_pipe R false l)) × (v.handed (link_pipe R true l) ≡ []) × (v.swept (link_pipe R true l) ≡ [])

abbrev pub MergesBands : Kinds → Type 0
MergesBands K = (R : Rules K) (v : Views K) (s : SlowViews K) (went : ℕ → List (Handed K)) (closed : ℕ → Bool) → IsLawful R (IsTold v) → Ended R v s went closed → (l : ℕ) → l < R.links → HasMerged R v went l
