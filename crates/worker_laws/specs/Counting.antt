-- What each worker counts, by what it did.
use Rattle.std.specs.Prelude.{List, [], ◌∷◌, ◌++◌, map, if◌then◌else◌}
use Rattle.std.specs.List.{flat_map}
use Rattle.order_laws.specs.Kinds.{Kinds}
use Rattle.order_laws.specs.Item.{Arrival, Outgoing}
use Rattle.order_laws.specs.Rules.{Rules, Decision, Sends, Asks, Drops}
use Rattle.order_laws.specs.Cause.{Cause}
use Rattle.order_laws.specs.Deeds.{Pushed, payloads, from_mark, Ending, Accepted, Refused, Lacked, Counted, Deed}
use Rattle.order_laws.specs.Settled.{SlowPathRequest}
use Rattle.worker_laws.specs.Forwards.{Handed}

pub data Count (K : Kinds) : Type 0 where
  Received : Count K
  Sent : Count K
  Replied : Count K  -- an answer was sent
  Dropped : Cause K → Count K

module _ {K : Kinds} where
  -- of one deed, where a full pipe has the cause full, and what was lacking the cause without
  abbrev pub dropped_by : (full without : Cause K) → Ending K.RuleCause → List (Count K)
  dropped_by full without Accepted = []
  dropped_by full without Refused = Dropped full ∷ []
  dropped_by full without Lacked = Dropped without ∷ []
  dropped_by full without (Counted c) = Dropped (Cause.Ruled c) ∷ []

  -- the pipe that a decision's outcome goes to
  abbrev pub full_by : Decision K → Cause K
  full_by (Sends l y) = Cause.LinkFull
  full_by (Asks p) = Cause.AnswerFull
  full_by (Drops c) = Cause.Ruled c

  abbrev pub receiver_counts : Deed K.RuleCause (Arrival K) → List (Count K)
  receiver_counts d = Received ∷ dropped_by Cause.ProcessorFull Cause.NoBuffer d.end

  abbrev pub processor_counts : Rules K → Deed K.RuleCause (Arrival K) → List (Count K)
  processor_counts R d = dropped_by (full_by (R.decide d.item)) Cause.NoMemory d.end

  abbrev pub slow_counts : Deed K.RuleCause (SlowPathRequest K) → List (Count K)
  slow_counts d = dropped_by Cause.LinkFull Cause.NoMemory d.end

  abbrev pub handed_count : Handed K → Count K
  handed_count h = if h.took then (if h.item.answer then Replied else Sent) else Dropped Cause.SendFailed

  abbrev pub swept_counts : List (Pushed (Outgoing K)) → List (Count K)
  swept_counts es = map (λ (o : Outgoing K). Dropped Cause.Closed) (payloads (from_mark es))

  -- ---- all that a worker counted

  abbrev pub counted_receiving : List (Deed K.RuleCause (Arrival K)) → List (Count K)
  counted_receiving log = flat_map receiver_counts log

  abbrev pub counted_working : Rules K → List (Deed K.RuleCause (Arrival K)) → List (Count K)
  counted_working R log = flat_map (processor_counts R) log

  abbrev pub counted_answering : List (Deed K.RuleCause (SlowPathRequest K)) → List (Count K)
  counted_answering log = flat_map slow_counts log

  abbrev pub counted_forwarding : List (Handed K) → (low high : List (Pushed (Outgoing K))) → List (Count K)
  counted_forwarding went low high = map handed_count went ++ (swept_counts low ++ swept_counts high)
