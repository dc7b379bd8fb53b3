-- What is told of a pipeline: what each link sent, where a packet is, how many of them.
use Rattle.std.specs.Prelude.{ℕ, Bool, ◌==◌, List, [], map, slice_index_or, Option, option_map}
use Rattle.std.specs.List.{range_with_len}
use Rattle.replay_laws.specs.Place as place
use Rattle.replay_laws.specs.Place.{places}
use Rattle.replay_laws.specs.Totals.{answered_count, dropped_count, received_count, sent_count, waiting_count}
use Rattle.replay_laws.specs.Worker.{Worker, Receiver, Processor, Slow, Forwarder, Controller}
use Rattle.order_laws.specs.Cause.{Cause}
use Rattle.process_packet.specs.Cause.{causes, number_of}
use Rattle.process_packet.specs.declared.config.Config.{Config}
use Rattle.process_packet.specs.declared.totals.Totals.{Totals}
use Rattle.router_rules.specs.Links.{interface_at, link_index}
use Rattle.router_rules.specs.Rules.{kinds}
use Rattle.replay_state.specs.Sent.{first, left}
use Rattle.router_rules.specs.Causes.{booked_as}
use Rattle.pipe_model.specs.Pipeline.{Pipeline, rules_in}
use Rattle.router_rules.specs.declared.outgoing.Outgoing.{Outgoing as Left}
use Rattle.pipe_model.specs.declared.place.Place.{Place as Stands}
use Rattle.pipe_model.specs.declared.place.Place.TheVariants as stands
use Rattle.router_rules.specs.declared.worker.Worker.{Worker as Named}
use Rattle.router_rules.specs.declared.worker.Worker.TheVariants as named

-- ---- what was sent

-- by the link with the interface, in order; nothing by a link that isn't there
abbrev pub sent_by : Pipeline → ℕ → List (Left × List ℕ)
sent_by p id = map left (slice_index_or p.world.sent (link_index p.config id) [])

-- ---- where a packet is

abbrev pub named_in : Config → Worker → Named
named_in c (Receiver a) = named.Receiver (interface_at c a)
named_in c (Processor i) = named.Processor i
named_in c Slow = named.Slow
named_in c (Forwarder l) = named.Forwarder (interface_at c l)
named_in c Controller = named.Controller

abbrev pub stands_in : Config → place.Place kinds → Stands
stands_in c (place.InHand w) = stands.Hand (named_in c w)
stands_in c (place.InPipe w) = stands.Pipe (named_in c w)
stands_in c (place.InHighPipe l) = stands.HighPipe (interface_at c l)
stands_in c place.Sent = stands.Sent
stands_in c place.Answered = stands.Answered
stands_in c (place.Dropped w) = stands.Dropped (booked_as w)

-- the place of a packet by its link's interface and its number; None where it isn't received
abbrev pub place_of : Pipeline → ℕ → ℕ → Option Stands
place_of p id number = option_map (stands_in p.config) (first (places (rules_in p) (link_index p.config id) number p.world))

-- ---- counts

abbrev pub is_number : ℕ → Cause kinds → Bool
is_number n w = number_of (booked_as w) == n

-- those of all causes
abbrev pub numbers : List ℕ
numbers = range_with_len 1 causes

abbrev pub totals_of : Pipeline → Totals
totals_of p = record {
  received = received_count (rules_in p) p.world;
  sent = sent_count p.world;
  answered = answered_count p.world;
  dropped = map (λ n. dropped_count (is_number n) p.world) numbers;
}

abbrev pub waiting_of : Pipeline → ℕ
waiting_of p = waiting_count (rules_in p) p.world
