-- What a processor does in one turn, and the law that it keeps.
use Rattle.std.specs.Prelude.{◌≡◌, ℕ, List, [], ◌∷◌, ◌++◌, length, Option, Some, None, slice_get, slice_index_or, slice_set}
use Rattle.ruled_pipe.specs.declared.entry.Load.TheVariants.{Payload}
use Rattle.ruled_pipe.specs.Producer.{Sender, entry, offered, refused}
use Rattle.ruled_pipe.specs.Consumer.{Taker}
use Rattle.order_laws.specs.Kinds.{Kinds}
use Rattle.order_laws.specs.Item.{Arrival, Outgoing}
use Rattle.order_laws.specs.Rules.{Rules, Decision, Sends, Asks, Drops}
use Rattle.order_laws.specs.Deeds.{payloads, Each, Deed, Ending, Accepted, Refused, Lacked, Counted, if_counted, done_items}
use Rattle.order_laws.specs.Settled.{SlowPathRequest, to_link, to_slow}
use Rattle.order_laws.specs.Counted.{place_of, is_offer}
use Rattle.worker_laws.specs.Ends.{pushes, EndTells, IsGrown}

module _ {Y : Type 0} where
  -- end k made one offer, and the others none; it was accepted, or refused
  abbrev pub SentOn : ℕ → Y → List (Sender Y) → List (Sender Y) → Type 0
  SentOn k y old new = (d : Sender Y) → let s = slice_index_or old k d in new ≡ slice_set old k (offered s (entry s.number (Payload y)))

  abbrev pub TurnedAway : ℕ → Y → List (Sender Y) → List (Sender Y) → Type 0
  TurnedAway k y old new = (d : Sender Y) → let s = slice_index_or old k d in new ≡ slice_set old k (refused s (entry s.number (Payload y)))

module _ {C : Type 0} where
  -- it was offered, or there was a reason not to
  abbrev pub LacksNothing : Ending C → Type 0
  LacksNothing Accepted = Unit {0}
  LacksNothing Refused = Unit {0}
  LacksNothing Lacked = ⊥
  LacksNothing (Counted c) = Unit {0}

module _ {C X : Type 0} where
  abbrev pub deed : X → Ending C → Deed C X
  deed x o = record { item = x; end = o }

module _ {X : Type 0} where
  abbrev pub in_hand : Option X → List X
  in_hand None = []
  in_hand (Some x) = x ∷ []

module _ {K : Kinds} where
  abbrev pub IsJust : Rules K → Deed K.RuleCause (Arrival K) → Type 0
  IsJust R d = if_counted d.end (λ c. R.decide d.item ≡ Drops c)

  abbrev pub leaves : Decision K → Type 0
  leaves (Sends l y) = Unit {0}
  leaves (Asks p) = Unit {0}
  leaves (Drops c) = ⊥

  -- nothing was offered but what the decision makes
  abbrev pub IsOffered : Rules K → Deed K.RuleCause (Arrival K) → Type 0
  IsOffered R d = is_offer d.end (leaves (R.decide d.item))

-- One packet worked on: every end grew by what was made of it.
pub record Did {K : Kinds} (R : Rules K) (d : Deed K.RuleCause (Arrival K)) (old new : List (Sender (Outgoing K))) (slow slow' : Sender (SlowPathRequest K)) : Type 0 where
  pub just : IsJust R d
  pub offers : IsOffered R d
  pub ample : LacksNothing d.end
  pub links : (j : ℕ) (t : Sender (Outgoing K)) → slice_get new j ≡ Some t
      → (s : Sender (Outgoing K)) × (slice_get old j ≡ Some s) × IsGrown (to_link R (place_of R j)) d s t
  pub asks : IsGrown (to_slow R) d slow slow'
  pub same : length new ≡ length old

-- What a processor did with the packets that it took, the one in its hand aside, is what its ends tell.
pub record Keeps {K : Kinds} (R : Rules K) (log : List (Deed K.RuleCause (Arrival K))) (taker : Taker (Arrival K)) (hand : Option (Arrival K)) (senders : List (Sender (Outgoing K))) (slow : Sender (SlowPathRequest K)) : Type 0 where
  pub took : payloads (pushes taker.taken) ≡ done_items log ++ in_hand hand
  pub just : Each (IsJust R) log
  pub offers : Each (IsOffered R) log
  pub ample : Each (λ (d : Deed K.RuleCause (Arrival K)). LacksNothing d.end) log
  pub links : (j : ℕ) (s : Sender (Outgoing K)) → slice_get senders j ≡ Some s → EndTells (to_link R (place_of R j)) log s
  pub asks : EndTells (to_slow R) log slow
