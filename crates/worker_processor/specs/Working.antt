-- What contracts see of a processor, and what a turn does.
use Rattle.std.specs.Prelude.{◌≡◌, ◌⊎◌, ◌<◌, ◌&&◌, ℕ, Bool, true, false, List, Option, Some, None}
use Rattle.packet_ledger.specs.Share.{Held}
use Rattle.order_laws.specs.Item.{Arrival, Outgoing}
use Rattle.order_laws.specs.Rules.{Decision, Sends, Asks, Drops}
use Rattle.order_laws.specs.Settled.{SlowPathRequest}
use Rattle.process_packet.specs.declared.cause.Cause.TheVariants as cause
use Rattle.process_packet.specs.declared.config.Config.{Config}
use Rattle.ruled_pipe.specs.declared.entry.Load.TheVariants.{Payload, Marked}
use Rattle.ruled_pipe.specs.declared.entry.Mark.{Mark}
use Rattle.ruled_pipe.specs.Consumer.{Taker, looked, took}
use Rattle.ruled_pipe.specs.Gathered.{ends_in}
use Rattle.ruled_pipe.specs.Producer.{Sender, entry}
use Rattle.worker_order.specs.Keeping.{IsWorking}
use Rattle.router_rules.specs.Rules.{decided, kinds}
use Rattle.router_rules.specs.declared.worker.Worker.{Worker}
use Rattle.router_rules.specs.declared.worker.Worker.TheVariants as worker
use Rattle.worker_parts.specs.Items.{asking}
use Rattle.worker_parts.specs.Outlet.{Offering, Tried, gave, kept}
use Rattle.worker_parts.specs.Outlets.{AreUnended, Trying, are_used, senders}
use Rattle.worker_processor.specs.Exits.{Leaving, DroppedAs, SentAs, with_links, with_share}
use Rattle.worker_parts.specs.Turn.{ending}
use Rattle.worker_parts.specs.declared.turn.Turn.{Turn}
use Rattle.worker_parts.specs.declared.turn.Turn.TheVariants.{Did, Quiet}

-- what it is asked about, what it asks, its number, what it took, what it has in hand, its end of the slow path's pipe, and
-- its ends of the links' pipes and counts
pub record Working (G : Type 0) : Type 0 where
  pub gate : G
  pub index : ℕ
  pub taker : Taker (Arrival kinds)
  pub hand : Option (Arrival kinds)
  pub slow : Offering (SlowPathRequest kinds)
  pub side : Leaving

abbrev pub out : Arrival kinds → ℕ → kinds.Parcel → Outgoing kinds
out x l y = record { arrived = x.link; number = x.number; answer = false; link = l; parcel = y }

abbrev pub AskedAs : SlowPathRequest kinds → Leaving → Leaving → Offering (SlowPathRequest kinds) → Offering (SlowPathRequest kinds) → Type 0
AskedAs q old new slow slow' = ((slow' ≡ gave slow q) × (new ≡ old)) ⊎ ((slow' ≡ kept slow q) × DroppedAs q.arrival.link cause.AnswerFull old new)

abbrev pub first_leaving : Config → List (Offering (Outgoing kinds)) → List (Sender (List ℕ)) → Held → Leaving
first_leaving c links free share = record { config = c; links = links; free = free; share = share }

-- what the decision makes of a packet: it is offered to its leaving link's pipe, or asked about, or dropped; what a full pipe
-- refuses is dropped
abbrev pub After : Decision kinds → Arrival kinds → Leaving → Leaving → Offering (SlowPathRequest kinds) → Offering (SlowPathRequest kinds) → Type 0
After (Sends l y) x old new slow slow' = SentAs (out x l y) old new × (slow' ≡ slow)
After (Asks p) x old new slow slow' = AskedAs (asking x p) old new slow slow'
After (Drops why) x old new slow slow' = DroppedAs x.link why old new × (slow' ≡ slow)

abbrev pub PassedOn : Arrival kinds → Leaving → Leaving → Offering (SlowPathRequest kinds) → Offering (SlowPathRequest kinds) → Type 0
PassedOn x old new slow slow' = After (decided old.config x.datagram) x old new slow slow'

module _ {G : Type 0} where
  abbrev pub with_taker : Taker (Arrival kinds) → Option (Arrival kinds) → Working G → Working G
  with_taker taker hand w = record { gate = w.gate; index = w.index; taker = taker; hand = hand; slow = w.slow; side = w.side }

  abbrev pub with_ends : Offering (SlowPathRequest kinds) → Leaving → Working G → Working G
  with_ends slow side w = record { gate = w.gate; index = w.index; taker = w.taker; hand = w.hand; slow = slow; side = side }

  abbrev pub first_working : G → ℕ → Taker (Arrival kinds) → Offering (SlowPathRequest kinds) → Leaving → Working G
  first_working gate index taker slow side = record { gate = gate; index = index; taker = taker; hand = None; slow = slow; side = side }

  -- its counts are posted, which leaves this share
  abbrev pub posted : Held → Working G → Working G
  posted share w = with_ends w.slow (with_share share w.side) w

  -- each producer's end mark was taken
  abbrev pub IsDone : Working G → Type 0
  IsDone w = ends_in w.taker.taken ≡ w.taker.producers

  -- nothing is in its hand, and an end mark is still to come
  abbrev pub AwaitsPush : Working G → Type 0
  AwaitsPush w = (w.hand ≡ None) × (ends_in w.taker.taken < w.taker.producers)

  -- it tries the end marks that it owes, and nothing else
  abbrev pub EndsWorking : Turn → Working G → Working G → Type 0
  EndsWorking turn old new =
      Tried old.slow new.slow
      × ((all : Bool) × Trying (are_used old.side.config) old.side.links new.side.links all × (turn ≡ ending (new.slow.ended && all)))
      × (new ≡ with_ends new.slow (with_links new.side.links old.side) old)

  module _ (answers : G → Worker → ℕ → ℕ → Bool → Type 0) where
    abbrev pub GateAnswers : Bool → Arrival kinds → Working G → Type 0
    GateAnswers b x w = answers w.gate (worker.Processor w.index) x.datagram.interface x.number b

    -- with a packet in hand the gate is asked; the packet stays in hand, or is passed on
    abbrev pub WorksOn : Turn → Arrival kinds → Working G → Working G → Type 0
    WorksOn turn x old new =
        ((turn ≡ Quiet) × GateAnswers false x old × (new ≡ old))
        ⊎ ((turn ≡ Did) × GateAnswers true x old × PassedOn x old.side new.side old.slow new.slow × (new ≡ with_ends new.slow new.side (with_taker old.taker None old)))

    abbrev pub WorksFor : Turn → Working G → Working G → Type 0
    WorksFor turn old new = (x : Arrival kinds) × (old.hand ≡ Some x) × WorksOn turn x old new

    -- with an empty hand, before its end, one entry is taken
    abbrev pub Takes : Turn → Working G → Working G → Type 0
    Takes turn old new =
        ((turn ≡ Quiet) × (new ≡ with_taker (looked old.taker) None old))
        ⊎ ((from : ℕ) × (m : Mark) × (turn ≡ Did) × (new ≡ with_taker (took old.taker (entry from (Marked m))) None old))
        ⊎ ((from : ℕ) × (x : Arrival kinds) × WorksOn turn x (with_taker (took old.taker (entry from (Payload x))) (Some x) old) new)

    -- one turn
    abbrev pub Worked : Turn → Working G → Working G → Type 0
    Worked turn old new =
        WorksFor turn old new
        ⊎ ((old.hand ≡ None) × IsDone old × EndsWorking turn old new)
        ⊎ ((old.hand ≡ None) × (ends_in old.taker.taken < old.taker.producers) × Takes turn old new)

-- the law of a processor, which goes on until its end
pub record KeepsWorking (named : Option Config) (taker : Taker (Arrival kinds)) (hand : Option (Arrival kinds)) (slow : Offering (SlowPathRequest kinds)) (side : Leaving) : Type 0 where
  pub config : named ≡ Some side.config
  pub law : IsWorking side.config taker hand (senders side.links) slow.sender side.share
  pub unended : ends_in taker.taken < taker.producers → AreUnended side.links × (slow.ended ≡ false)
  pub busy : (x : Arrival kinds) → hand ≡ Some x → ends_in taker.taken < taker.producers
