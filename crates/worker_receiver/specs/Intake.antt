-- What a receiver does with one datagram.
use Rattle.std.specs.Prelude.{◌≡◌, ℕ, false, List, Some, None}
use Rattle.flow_key.specs.Flow.{flow_at}
use Rattle.flow_key.specs.Hash.{processor_of}
use Rattle.packet_ledger.specs.Share.{Held}
use Rattle.order_laws.specs.Item.{Arrival}
use Rattle.order_laws.specs.Deeds.{Ending, Accepted, Refused, Lacked, Counted}
use Rattle.process_packet.specs.declared.cause.Cause.{Cause}
use Rattle.process_packet.specs.declared.config.Config.{Config}
use Rattle.router_rules.specs.Rules.{inspected, kinds}
use Rattle.worker_order.specs.Shares.{raise_all}
use Rattle.worker_laws.specs.Counting.{receiver_counts}
use Rattle.worker_laws.specs.Works.{deed}
use Rattle.worker_parts.specs.Outlet.{Offering}
use Rattle.worker_parts.specs.Outlets.{GaveAt, KeptAt}
use Rattle.worker_receiver.specs.Pool.{Stock, Another, stock}

-- a receiver's side of its link: the link's number and interface, its buffers, its ends of the processors' pipes, its counts
pub record Intake : Type 0 where
  pub config : Config
  pub link : ℕ
  pub interface : ℕ
  pub stock : Stock
  pub processors : List (Offering (Arrival kinds))
  pub share : Held

-- and the buffer into which datagrams are read
pub record Taking : Type 0 where
  pub room : List ℕ
  pub side : Intake

-- the processor of a datagram's flow
abbrev pub place : Config → Arrival kinds → ℕ
place c x = processor_of (flow_at false x.datagram.bytes) c.seed c.processors

-- what became of the datagram, on the ends and the buffers: one with a fault is dropped, for another a buffer is looked for;
-- without one it is dropped; with one it is offered to its flow's processor, and where that is refused the buffer is kept
abbrev pub EndedAs : Arrival kinds → Ending Cause → Intake → Intake → Type 0
EndedAs x (Counted why) old new = (inspected old.config x.datagram.interface x.datagram.bytes ≡ Some why) × (new.processors ≡ old.processors) × (new.stock ≡ old.stock)
EndedAs x Lacked old new = (inspected old.config x.datagram.interface x.datagram.bytes ≡ None) × (new.processors ≡ old.processors) × Another old.stock None new.stock
EndedAs x Accepted old new = (inspected old.config x.datagram.interface x.datagram.bytes ≡ None) × GaveAt (place old.config x) x old.processors new.processors × ((buffer : List ℕ) × Another old.stock (Some buffer) new.stock)
EndedAs x Refused old new =
    (inspected old.config x.datagram.interface x.datagram.bytes ≡ None) × KeptAt (place old.config x) x old.processors new.processors
    × ((buffer : List ℕ) × (free : Stock) × Another old.stock (Some buffer) free × ((read : List ℕ) × (new.stock ≡ stock (Some read) free.free)))

-- One datagram: it is counted as received, and so is its drop where it was dropped.
pub record PassedIn (x : Arrival kinds) (old new : Intake) : Type 0 where
  pub outcome : Ending Cause
  pub ended : EndedAs x outcome old new
  pub share : new.share ≡ raise_all (receiver_counts {K = kinds} (deed x outcome)) old.share
  pub same : (new.config ≡ old.config) × (new.link ≡ old.link) × (new.interface ≡ old.interface)
