-- What met a full pipe.
use Rattle.std.specs.Prelude.{◌≡◌, ◌≤◌, ℕ, Bool, true, false, ◌-◌, [], ◌∷◌, length}
use Rattle.std.specs.List.{All, Contains}
use Rattle.order_laws.specs.Kinds.{Kinds}
use Rattle.order_laws.specs.Item.{Item, Arrived}
use Rattle.replay_laws.specs.Pipe.{Refusal, held}
use Rattle.order_laws.specs.Rules.{Rules}
use Rattle.order_laws.specs.Fate.{Fate}
use Rattle.replay_laws.specs.World.{World, pipe, fate_of}
use Rattle.order_laws.specs.Cause.{Cause}
use Rattle.order_laws.specs.Pipes.{home}
use Rattle.replay_laws.specs.Next.{full_of}
use Rattle.replay_laws.specs.Start.{Reached, IsLawfulFor}
use Rattle.replay_laws.specs.ByRules.{IsMade}

module _ {K : Kinds} where
  abbrev pub is_full_cause : Cause K → Bool
  is_full_cause Cause.ProcessorFull = true
  is_full_cause Cause.LinkFull = true
  is_full_cause Cause.AnswerFull = true
  is_full_cause _ = false

module _ {K : Kinds} where
  -- an item that was received
  abbrev pub is_received : Item K → Bool
  is_received (Arrived x) = false
  is_received _ = true

-- the pipe that the packet, its problem or its answer goes to by the rules noted a refusal when it held its capacity
pub record MetFull {K : Kinds} (R : Rules K) (s w : World K) (f : Fate K) : Type 0 where
  pub item : Item K
  pub received : is_received item ≡ true
  pub made : IsMade R s item
  pub fate : fate_of item (full_of item) ≡ f ∷ []
  pub refusal : Refusal
  pub noted : Contains (pipe w (home R item)).refusals refusal
  pub link : refusal.link ≡ f.link
  pub number : refusal.number ≡ f.number
  pub full : refusal.length - refusal.taken ≡ (pipe w (home R item)).capacity

pub record IsFull {K : Kinds} (R : Rules K) (s w : World K) : Type 0 where
  -- each packet or answer that is counted as dropped at a full pipe met its own pipe full
  pub drops : All (λ f. is_full_cause f.cause ≡ true → MetFull R s w f) w.fates
  -- no pipe holds more than its capacity, and that stays
  pub within : (q : ℕ) → R.links ≤ q → length (held (pipe w q)) ≤ (pipe w q).capacity
  pub capacities : (q : ℕ) → (pipe w q).capacity ≡ (pipe s q).capacity

abbrev pub KeepsFull : Kinds → Type 0
KeepsFull K = (R : Rules K) (w : World K) (r : Reached R w) → IsLawfulFor R w r → IsFull R r.start w
