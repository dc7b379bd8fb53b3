-- A router's workers as they came back.
use Rattle.std.specs.Prelude.{ℕ, List, map, Option}
use Rattle.worker_order.specs.Heard.{Heard}
use Rattle.worker_order.specs.Returned.{ReceiverBack, ProcessorBack, SlowBack, ForwarderBack, Returned}
use Rattle.worker_processor.specs.Answering.{Answering}
use Rattle.worker_forwarder.specs.Forwarding.{Forwarding, ForwarderEnded}
use Rattle.worker_receiver.specs.Receiving.{Receiving}
use Rattle.worker_processor.specs.Working.{Working}
use Rattle.worker_parts.specs.Outlets.{senders}
use Rattle.worker_parts.specs.Told.{Told}
use Rattle.run_ends.specs.Settled.{AreSettled, IsDone}
use Rattle.run_ends.specs.Shutting.{shutter_ends, EachEnds}
use Rattle.run_report.specs.Crew.{Crew, packet_rows, packet_takers, request_row, egress_rows, takers_of}
use Rattle.run_pipes.specs.Piping.{Piping}
use Rattle.worker_parts.specs.Back.{AreBack}
use Rattle.worker_receiver.specs.SameReceiver.{IsSameReceiver, ReceiverEnded}
use Rattle.worker_processor.specs.SameProcessor.{IsSameProcessor, ProcessorEnded}
use Rattle.worker_processor.specs.SameSlowPath.{IsSameSlowPath, SlowPathEnded}
use Rattle.worker_forwarder.specs.SameForwarder.{IsSameForwarder}

-- Each worker is the same, over the same device, and has ended; the controller's end marks are there.
pub record IsBack {S G K : Type 0} (same_source : S → S → Type 0) (same_sink : K → K → Type 0) (old new : Crew S G K) : Type 0 where
  pub receivers : AreBack (λ a b. IsSameReceiver same_source a b × ReceiverEnded b) old.receivers new.receivers
  pub processors : AreBack (λ a b. IsSameProcessor a b × ProcessorEnded b) old.processors new.processors
  pub slow : IsSameSlowPath old.slow new.slow × SlowPathEnded new.slow
  pub forwarders : AreBack (λ a b. IsSameForwarder same_sink a b × ForwarderEnded b) old.forwarders new.forwarders
  pub shutters : EachEnds old.shutters new.shutters

-- All pipes were gathered.
pub record HasSettled {S G K : Type 0} (p : Piping) (w : Crew S G K) : Type 0 where
  pub packets : AreSettled 0 (packet_rows w) p.packets (packet_takers w)
  pub requests : IsDone p.requests (request_row w) w.slow.taker
  pub egress_packets : AreSettled 0 (egress_rows w) p.egress_packets (takers_of w.forwarders)

module _ {S : Type 0} (told : S → Option (List Heard)) where
  abbrev pub receiver_back : Receiving S → ReceiverBack
  receiver_back r = record { number = r.number; told = told r.source; looks = r.side.stock.free.looks; senders = senders r.side.processors; share = r.side.share }

module _ {K : Type 0} (shown : K → Option (List Told)) (failed : K → ℕ) where
  abbrev pub forwarder_back : Forwarding K → ForwarderBack Told
  forwarder_back f = record { low = f.low.taker; high = f.high.taker; low_shut = f.low.shut; high_shut = f.high.shut; told = shown f.side.sink; began = f.began; failed = failed f.side.sink; share = f.side.share }

abbrev pub processor_back : {G : Type 0} → Working G → ProcessorBack
processor_back p = record { taker = p.taker; links = senders p.side.links; slow = p.slow.sender; share = p.side.share }

abbrev pub slow_back : Answering → SlowBack
slow_back a = record { taker = a.taker; links = senders a.side.links; share = a.side.share }

module _ {S G K : Type 0} (told : S → Option (List Heard)) (shown : K → Option (List Told)) (failed : K → ℕ) where
  -- the workers, as the theorem sees them
  abbrev pub back_of : Crew S G K → Returned Told
  back_of w = record {
    receivers = map (receiver_back told) w.receivers;
    processors = map processor_back w.processors;
    slow = slow_back w.slow;
    forwarders = map (forwarder_back shown failed) w.forwarders;
    controller = shutter_ends w.shutters;
  }
