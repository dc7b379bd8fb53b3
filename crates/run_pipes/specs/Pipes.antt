-- The router's pipes: the workers get their ends one by one, and the pipes take them back.
use Rattle.std.specs.Prelude.{◌≡◌, ◌+◌, ℕ, List, map}
use Rattle.order_laws.specs.Item.{Arrival, Outgoing}
use Rattle.order_laws.specs.Settled.{SlowPathRequest}
use Rattle.process_packet.specs.declared.config.Config.{Config}
use Rattle.ruled_pipe.specs.Producer.{Sender}
use Rattle.ruled_pipe.specs.Pipe.{shape_of}
use Rattle.router_rules.specs.Links.{link_count}
use Rattle.router_rules.specs.Rules.{kinds}
use Rattle.run_ends.specs.Opened.{made_pipe, made_pipes}
use Rattle.run_ends.specs.Rows.{new_takers, taker_of}
use Rattle.run_ends.specs.TakenBack.{HaveBack, back_pipe}
use Rattle.run_pipes.specs.Piping.{IsPiping, Piping}
use Rattle.run_pipes.specs.declared.pipes.Pipes.{Pipes}
use Rattle.run_pipes.specs.declared.pipes.Takers.{Takers}

-- the ends that workers had, by workers: the receivers', the processors' of the slow path's pipe, and those of the links' pipes
abbrev pub ReceiverRows : Type 0
ReceiverRows = List (List (Sender (Arrival kinds)))

abbrev pub RequestRow : Type 0
RequestRow = List (Sender (SlowPathRequest kinds))

abbrev pub LinkRows : Type 0
LinkRows = List (List (Sender (Outgoing kinds)))

module _ {N : Type 0} where
  abbrev pub piping_of : Pipes N → Piping
  piping_of k = record { packets = map shape_of k.packets.items; requests = shape_of k.requests; egress_packets = map shape_of k.egress_packets.items; free = map shape_of k.free.items }

  -- Of each of these pipes, which are those that the configuration asks for, so many producers were made, and none is back.
  pub record HaveMade (c : Config) (a m o f : ℕ) (p : Piping) (k : Pipes N) : Type 0 where
    pub piping : IsPiping c p
    pub packets : k.packets.items ≡ made_pipes a p.packets
    pub requests : k.requests ≡ made_pipe m p.requests
    pub egress_packets : k.egress_packets.items ≡ made_pipes o p.egress_packets
    pub free : k.free.items ≡ made_pipes f p.free

  -- as many receivers have their ends; then all these and as many processors; the slow path too; the controller and as many forwarders
  abbrev pub HaveReceivers : Config → ℕ → Piping → Pipes N → Type 0
  HaveReceivers c a p k = HaveMade c a 0 0 0 p k

  abbrev pub HaveProcessors : Config → ℕ → Piping → Pipes N → Type 0
  HaveProcessors c i p k = HaveMade c (link_count c) i i i p k

  abbrev pub HaveSlowPath : Config → Piping → Pipes N → Type 0
  HaveSlowPath c p k = HaveMade c (link_count c) c.processors (c.processors + 1) (c.processors + 1) p k

  abbrev pub HaveForwarders : Config → ℕ → Piping → Pipes N → Type 0
  HaveForwarders c l p k = HaveMade c (link_count c) c.processors (c.processors + 2) (c.processors + 1 + l) p k

  -- These are their consumers, which took nothing yet.
  pub record AreTakersOf (p : Piping) (t : Takers N) : Type 0 where
    pub packets : t.packets.items ≡ new_takers p.packets
    pub requests : t.requests ≡ taker_of p.requests
    pub egress_packets : t.egress_packets.items ≡ new_takers p.egress_packets
    pub free_buffers : t.free_buffers.items ≡ new_takers p.free

  -- All producers were made, and these are back.
  pub record HaveAllBack (receiver_rows : ReceiverRows) (request_row : RequestRow) (link_rows : LinkRows) (p : Piping) (k : Pipes N) : Type 0 where
    pub packets : HaveBack receiver_rows p.packets k.packets.items
    pub requests : k.requests ≡ back_pipe request_row p.requests
    pub egress_packets : HaveBack link_rows p.egress_packets k.egress_packets.items
