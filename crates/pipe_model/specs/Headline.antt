-- What holds of a pipeline after any list of steps: packets of a flow keep their order, each packet is at one place, the
-- counts add up, a drop at a full pipe met it full, and nothing after a closing mark is sent.
use Rattle.std.specs.Prelude.{◌≡◌, ◌<◌, ◌+◌, ℕ, Bool, true, false, List}
use Rattle.std.specs.List.{All}
use Rattle.replay_laws.specs.ByRules.{IsByRules}
use Rattle.replay_laws.specs.Close.{IsClosing}
use Rattle.replay_laws.specs.Full.{IsFull}
use Rattle.order_laws.specs.Item.{Arrival}
use Rattle.replay_laws.specs.Once.{IsOnce}
use Rattle.replay_laws.specs.Order.{InOrder}
use Rattle.replay_laws.specs.Place.{IsPlaced}
use Rattle.replay_laws.specs.Sent.{IsSent}
use Rattle.replay_laws.specs.Start.{HasArrival, Reached}
use Rattle.replay_laws.specs.Totals.{answered_count, dropped_count, received_count, sent_count, waiting_count}
use Rattle.order_laws.specs.Rules.{Asks, Drops, Withholds}
use Rattle.order_laws.specs.Cause.{Cause}
use Rattle.order_laws.specs.Fate.{Fate}
use Rattle.replay_laws.specs.World.{World}
use Rattle.process_packet.specs.declared.cause.Cause.{Cause as RouterCause}
use Rattle.process_packet.specs.declared.config.Config.{Config}
use Rattle.process_packet.specs.declared.decision.Problem.{Problem}
use Rattle.router_rules.specs.Laws.{is_withheld}
use Rattle.router_rules.specs.Rules.{Arrives, kinds, rules}
use Rattle.pipe_model.specs.Begun.{arriving, start_of}
use Rattle.pipe_model.specs.Pipeline.{Pipeline, ran}
use Rattle.replay_steps.specs.declared.step.Step.{Step}

-- Some steps led to the world from the one that it all began with: its pipes have the configured capacity, nothing was
-- received, and what arrives is what the world tells of. It comes by the links that it is numbered on.
pub record IsReached (c : Config) (w : World kinds) : Type 0 where
  pub way : Reached (rules c) w
  pub begins : way.start ≡ start_of c w
  pub arrives : (x : Arrival kinds) → HasArrival way.start x → Arrives c x

-- What arrives stays: by whatever steps, the world tells of the same arrivals.
abbrev pub ArrivalsStay : Type 0
ArrivalsStay = (p : Pipeline) (ss : List Step) → arriving (ran p ss).config (ran p ss).world ≡ arriving p.config p.world

-- For each arriving link, flow and leaving link what the forwarder took for sending is a beginning of what the sequential
-- router sends there, in order and byte for byte, less the packets counted as dropped; each packet is at one place.
pub record IsHeadline (c : Config) (w : World kinds) : Type 0 where
  pub order : InOrder (rules c) w
  pub place : IsPlaced (rules c) w
  pub once : IsOnce (rules c) w
  pub totals : received_count (rules c) w ≡ sent_count w + answered_count w + waiting_count (rules c) w + dropped_count (λ c. true) w

-- why the arrival was dropped by the rules: for a cause of the reply's the answer to its problem was withheld, for any other
-- the decision dropped it, which drops for the same cause what the inspection refuses
abbrev pub IsSaid : Bool → Config → Arrival kinds → RouterCause → Type 0
IsSaid true c x why = (p : Problem) × ((rules c).decide x ≡ Asks p) × ((rules c).reply x p ≡ Withholds why)
IsSaid false c x why = (rules c).decide x ≡ Drops why

abbrev pub IsSaidOf : Config → World kinds → Fate kinds → RouterCause → Type 0
IsSaidOf c s f why = (x : Arrival kinds) × HasArrival s x × (f.link ≡ x.link) × (f.number ≡ x.number) × IsSaid (is_withheld why) c x why

abbrev pub IsToldBy : Config → World kinds → Fate kinds → Type 0
IsToldBy c s f = (why : RouterCause) → f.cause ≡ Cause.Ruled why → IsSaidOf c s f why

-- And by whatever steps the world was reached: every item and every cause comes from an arrival by the rules, and each cause from its own; a drop at a full
-- pipe met it full; nothing after a closing mark was taken for sending; what was sent is what was taken for sending.
pub record IsWayGood (c : Config) (w : World kinds) (r : IsReached c w) : Type 0 where
  pub made : IsByRules (rules c) r.way.start w
  pub causes : All (IsToldBy c r.way.start) w.fates
  pub full : IsFull (rules c) r.way.start w
  pub close : IsClosing (rules c) r.way.start w r.way.steps
  pub sent : (l : ℕ) → l < (rules c).links → IsSent (rules c) r.way.start w r.way.steps l
