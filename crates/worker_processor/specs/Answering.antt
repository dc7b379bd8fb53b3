-- What contracts see of the slow path, and what a turn does.
use Rattle.std.specs.Prelude.{◌≡◌, ◌⊎◌, ◌<◌, ℕ, Bool, Option, Some}
use Rattle.packet_ledger.specs.Share.{Held}
use Rattle.order_laws.specs.Rules.{Reply, Replies, Withholds}
use Rattle.order_laws.specs.Settled.{SlowPathRequest}
use Rattle.process_packet.specs.declared.config.Config.{Config}
use Rattle.ruled_pipe.specs.declared.entry.Load.TheVariants.{Payload, Marked}
use Rattle.ruled_pipe.specs.declared.entry.Mark.{Mark}
use Rattle.ruled_pipe.specs.Consumer.{Taker, looked, took}
use Rattle.ruled_pipe.specs.Gathered.{ends_in}
use Rattle.ruled_pipe.specs.Producer.{entry}
use Rattle.worker_order.specs.Keeping.{IsAnswering}
use Rattle.router_rules.specs.Rules.{kinds, replied}
use Rattle.worker_laws.specs.Answers.{answer_to}
use Rattle.worker_parts.specs.Outlets.{AreUnended, Trying, are_used, senders}
use Rattle.worker_processor.specs.Exits.{Leaving, DroppedAs, SentAs, with_links, with_share}
use Rattle.worker_parts.specs.Turn.{ending}
use Rattle.worker_parts.specs.declared.turn.Turn.{Turn}
use Rattle.worker_parts.specs.declared.turn.Turn.TheVariants.{Did, Quiet}

-- what it took, and its ends of the links' pipes and counts
pub record Answering : Type 0 where
  pub taker : Taker (SlowPathRequest kinds)
  pub side : Leaving

abbrev pub with_taker : Taker (SlowPathRequest kinds) → Answering → Answering
with_taker taker a = record { taker = taker; side = a.side }

abbrev pub with_side : Leaving → Answering → Answering
with_side side a = record { taker = a.taker; side = side }

abbrev pub first_answering : Taker (SlowPathRequest kinds) → Leaving → Answering
first_answering taker side = record { taker = taker; side = side }

-- its counts are posted, which leaves this share
abbrev pub posted : Held → Answering → Answering
posted share a = with_side (with_share share a.side) a

-- each producer's end mark was taken
abbrev pub IsDone : Answering → Type 0
IsDone a = ends_in a.taker.taken ≡ a.taker.producers

-- The answer is offered to the pipe of its link and band, and dropped where that is full; a packet whose answer is
-- withheld is dropped for the cause of that.
abbrev pub AfterReply : Reply kinds → SlowPathRequest kinds → Leaving → Leaving → Type 0
AfterReply (Replies l y) q old new = SentAs (answer_to q l y) old new
AfterReply (Withholds why) q old new = DroppedAs q.arrival.link why old new

abbrev pub RepliedTo : SlowPathRequest kinds → Leaving → Leaving → Type 0
RepliedTo q old new = AfterReply (replied old.config q.arrival.datagram q.problem) q old new

-- it tries the end marks that it owes, and nothing else
abbrev pub EndsAnswering : Turn → Answering → Answering → Type 0
EndsAnswering turn old new =
    (all : Bool) × Trying (are_used old.side.config) old.side.links new.side.links all × (turn ≡ ending all)
    × (new ≡ with_side (with_links new.side.links old.side) old)

-- before its end, one entry is taken: nothing was there, a mark, or a request, which is answered
abbrev pub TakesRequest : Turn → Answering → Answering → Type 0
TakesRequest turn old new =
    ((turn ≡ Quiet) × (new ≡ with_taker (looked old.taker) old))
    ⊎ ((from : ℕ) × (m : Mark) × (turn ≡ Did) × (new ≡ with_taker (took old.taker (entry from (Marked m))) old))
    ⊎ ((from : ℕ) × (q : SlowPathRequest kinds) × (turn ≡ Did) × RepliedTo q old.side new.side × (new ≡ record { taker = took old.taker (entry from (Payload q)); side = new.side }))

-- one turn
abbrev pub Answered : Turn → Answering → Answering → Type 0
Answered turn old new =
    (IsDone old × EndsAnswering turn old new)
    ⊎ ((ends_in old.taker.taken < old.taker.producers) × TakesRequest turn old new)

-- the law of the slow path, which goes on until its end
pub record KeepsAnswering (named : Option Config) (taker : Taker (SlowPathRequest kinds)) (side : Leaving) : Type 0 where
  pub config : named ≡ Some side.config
  pub law : IsAnswering side.config taker (senders side.links) side.share
  pub unended : ends_in taker.taken < taker.producers → AreUnended side.links
