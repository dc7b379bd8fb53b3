-- What an item or a fate comes from.
use Rattle.std.specs.Prelude.{◌≡◌, ◌⊎◌, ◌<◌, ℕ, true, false, None, [], slice_index_or}
use Rattle.std.specs.List.{All}
use Rattle.order_laws.specs.Kinds.{Kinds}
use Rattle.order_laws.specs.Item.{Arrival, Outgoing, Item, Arrived, Packet, Request, Out, Close, End}
use Rattle.replay_laws.specs.Pipe.{items}
use Rattle.order_laws.specs.Rules.{Rules, Sends, Asks, Drops, Replies, Withholds}
use Rattle.order_laws.specs.Fate.{Fate}
use Rattle.replay_laws.specs.World.{World, Hand, Empty, Got, Owes, hand, pipe}
use Rattle.order_laws.specs.Cause.{Cause}
use Rattle.order_laws.specs.Pipes.{home}
use Rattle.replay_laws.specs.Start.{HasArrival, Reached, IsLawfulFor}

module _ {K : Kinds} where
  -- what the decision sends of the arrival, or what answers its problem
  abbrev pub IsOutOf : Rules K → Arrival K → Outgoing K → Type 0
  IsOutOf R x o = ((o.answer ≡ false) × (R.decide x ≡ Sends o.link o.parcel)) ⊎ ((o.answer ≡ true) × (p : K.Problem) × (R.decide x ≡ Asks p) × (R.reply x p ≡ Replies o.link o.parcel))

  abbrev pub IsMade : Rules K → World K → Item K → Type 0
  IsMade R s (Arrived x) = HasArrival s x
  IsMade R s (Packet x) = HasArrival s x × (R.inspect x ≡ None)
  IsMade R s (Request x p) = HasArrival s x × (R.decide x ≡ Asks p)
  IsMade R s (Out o) = (x : Arrival K) × HasArrival s x × (o.arrived ≡ x.link) × (o.number ≡ x.number) × IsOutOf R x o
  IsMade R s Close = Unit {0}
  IsMade R s End = Unit {0}

  abbrev pub IsHandMade : Rules K → World K → Hand K → Type 0
  IsHandMade R s Empty = Unit {0}
  IsHandMade R s (Got x) = IsMade R s x
  IsHandMade R s (Owes x) = IsMade R s x

  -- a reason is the decision's, or the reply's to the decision's problem
  abbrev pub IsRuleCauseOf : Rules K → Arrival K → K.RuleCause → Type 0
  IsRuleCauseOf R x c = (R.decide x ≡ Drops c) ⊎ ((p : K.Problem) × (R.decide x ≡ Asks p) × (R.reply x p ≡ Withholds c))

  abbrev pub IsCauseOf : Rules K → World K → Fate K → Cause K → Type 0
  IsCauseOf R s f (Cause.Ruled c) = (x : Arrival K) × HasArrival s x × (f.link ≡ x.link) × (f.number ≡ x.number) × IsRuleCauseOf R x c
  IsCauseOf R s f Cause.ProcessorFull = Unit {0}
  IsCauseOf R s f Cause.LinkFull = Unit {0}
  IsCauseOf R s f Cause.AnswerFull = Unit {0}
  IsCauseOf R s f Cause.NoMemory = Unit {0}
  IsCauseOf R s f Cause.Closed = Unit {0}
  IsCauseOf R s f Cause.SendFailed = Unit {0}
  IsCauseOf R s f Cause.NoBuffer = Unit {0}

  abbrev pub IsCaused : Rules K → World K → Fate K → Type 0
  IsCaused R s f = IsCauseOf R s f f.cause

  -- the item stands in the pipe that it goes to; a mark may stand in any, an arrival that isn't received in its source
  abbrev pub IsHome : Rules K → ℕ → Item K → Type 0
  IsHome R q (Arrived x) = (x.link ≡ q) × (q < R.links)
  IsHome R q (Packet x) = home R (Packet x) ≡ q
  IsHome R q (Request x p) = home R (Request x p) ≡ q
  IsHome R q (Out o) = home R (Out o) ≡ q
  IsHome R q Close = Unit {0}
  IsHome R q End = Unit {0}

-- All that is under way or ended comes from the arrivals of the start s by the rules, and stands in its own pipe.
pub record IsByRules {K : Kinds} (R : Rules K) (s w : World K) : Type 0 where
  pub hands : (j : ℕ) → IsHandMade R s (hand w j)
  pub pipes : (q : ℕ) → All (IsMade R s) (items (pipe w q).history)
  pub fates : All (IsCaused R s) w.fates
  pub homes : (q : ℕ) → All (IsHome R q) (items (pipe w q).history)
  pub sent : (l : ℕ) → All (λ o. IsMade R s (Out o)) (slice_index_or w.sent l [])

abbrev pub KeepsRules : Kinds → Type 0
KeepsRules K = (R : Rules K) (w : World K) (r : Reached R w) → IsLawfulFor R w r → IsByRules R r.start w
