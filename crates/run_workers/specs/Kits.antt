-- What workers with devices are made of, but for their devices; and workers by their numbers.
use Rattle.std.specs.Prelude.{◌≡◌, ◌+◌, ◌*◌, ℕ, List, Some, map, slice_get}
use Rattle.std.specs.List.{zip}
use Rattle.order_laws.specs.Item.{Arrival}
use Rattle.packet_ledger.specs.Share.{Held}
use Rattle.process_packet.specs.declared.config.Config.{Config}
use Rattle.router_rules.specs.Links.{link_count}
use Rattle.ruled_pipe.specs.Producer.{Sender}
use Rattle.ruled_pipe.specs.Consumer.{Taker}
use Rattle.ruled_pipe.specs.Pipe.{Shape, IsEndOf, IsTakerOf}
use Rattle.router_rules.specs.Rules.{kinds}
use Rattle.worker_processor.specs.Answering.{Answering}
use Rattle.worker_forwarder.specs.Forwarding.{Band, Forwarding, first_delivery, first_forwarding}
use Rattle.worker_receiver.specs.Receiving.{Receiving, first_receiving}
use Rattle.worker_processor.specs.Working.{Working}
use Rattle.worker_parts.specs.Outlet.{Offering}
use Rattle.worker_parts.specs.Outlets.{AreFresh, senders}
use Rattle.run_ends.specs.Rows.{AreEndsOf, fresh_ends}
use Rattle.run_pipes.specs.Piping.{IsTakerThere, Piping}

-- what each of a list makes with its own of another
module _ {X Y Z : Type 0} (make : X → Y → Z) where
  abbrev pub paired : List X → List Y → List Z
  paired xs ys = map (λ (p : X × Y). make p.0 p.1) (zip xs ys)

-- a receiver without its source
pub record Entry : Type 0 where
  pub config : Config
  pub link : ℕ
  pub free : Taker (List ℕ)
  pub processors : List (Offering (Arrival kinds))
  pub share : Held

-- it has the producers of its number of the processors' pipes, takes from its link's pipe of free buffers, and has the row of its
-- number in the book
pub record IsEnteringAt (c : Config) (p : Piping) (a : ℕ) (e : Entry) : Type 0 where
  pub config : e.config ≡ c
  pub link : e.link ≡ a
  pub processors : AreEndsOf a p.packets (senders e.processors)
  pub free : IsTakerThere p.free a e.free
  pub place : e.share.place ≡ a

module _ {S : Type 0} where
  -- the receiver over a source, and all over theirs
  abbrev pub receiving_over : Entry → S → Receiving S
  receiving_over e s = first_receiving e.config e.link s e.free e.processors e.share

  abbrev pub receivings : List Entry → List S → List (Receiving S)
  receivings es ss = paired receiving_over es ss

-- a forwarder without its sink
pub record Exit : Type 0 where
  pub config : Config
  pub link : ℕ
  pub low : Band
  pub high : Band
  pub free : List (Sender (List ℕ))
  pub share : Held

-- its pipes are those of its link; it has the producers after the slow path's of the pipes of free buffers, and the row in the book
-- after the slow path's
pub record IsLeavingAt (c : Config) (p : Piping) (l : ℕ) (e : Exit) : Type 0 where
  pub config : e.config ≡ c
  pub link : e.link ≡ l
  pub first : Shape
  pub second : Shape
  pub first_there : slice_get p.egress_packets (2 * l) ≡ Some first
  pub second_there : slice_get p.egress_packets (2 * l + 1) ≡ Some second
  pub low : IsTakerOf first e.low.taker
  pub high : IsTakerOf second e.high.taker
  pub free : e.free ≡ fresh_ends (c.processors + 1 + l) p.free
  pub place : e.share.place ≡ link_count c + c.processors + 1 + l

module _ {K : Type 0} (failed : K → ℕ) where
  -- the forwarder over a sink, and all over theirs
  abbrev pub forwarding_over : Exit → K → Forwarding K
  forwarding_over e k = first_forwarding e.link e.low e.high (failed k) (first_delivery e.config k e.free e.share)

  abbrev pub forwardings : List Exit → List K → List (Forwarding K)
  forwardings es ks = paired forwarding_over es ks

module _ {G : Type 0} where
  -- a processor has its number, takes from its pipe, and has the producers of its number, and the row in the book after the
  -- receivers'
  pub record IsWorkingAt (c : Config) (p : Piping) (i : ℕ) (s : Shape) (w : Working G) : Type 0 where
    pub config : w.side.config ≡ c
    pub index : w.index ≡ i
    pub taker : IsTakerOf s w.taker
    pub slow : IsEndOf p.requests i w.slow.sender
    pub links : AreEndsOf i p.egress_packets (senders w.side.links)
    pub fresh : AreFresh w.side.links
    pub free : w.side.free ≡ fresh_ends i p.free
    pub place : w.side.share.place ≡ link_count c + i

-- the slow path has the producers, and the row in the book, after the processors'
pub record IsAnsweringAt (c : Config) (p : Piping) (a : Answering) : Type 0 where
  pub config : a.side.config ≡ c
  pub taker : IsTakerOf p.requests a.taker
  pub links : AreEndsOf c.processors p.egress_packets (senders a.side.links)
  pub fresh : AreFresh a.side.links
  pub free : a.side.free ≡ fresh_ends c.processors p.free
  pub place : a.side.share.place ≡ link_count c + c.processors

-- the processor of a number
pub record IsWorkingThere {G : Type 0} (c : Config) (p : Piping) (i : ℕ) (w : Working G) : Type 0 where
  pub own : Shape
  pub there : slice_get p.packets i ≡ Some own
  pub works : IsWorkingAt c p i own w
