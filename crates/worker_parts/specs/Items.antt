-- What stands in the pipes.
use Rattle.std.specs.Prelude.{◌≡◌, ◌<◌, ℕ, true, false, List, Option, Some, None}
use Rattle.order_laws.specs.Item.{Arrival, Outgoing}
use Rattle.order_laws.specs.Settled.{SlowPathRequest}
use Rattle.process_packet.specs.declared.config.Config.{Config}
use Rattle.process_packet.specs.declared.underlay.Underlay.{Underlay}
use Rattle.worker_order.specs.Heard.{arrival}
use Rattle.router_rules.specs.Datagram.{Parcel}
use Rattle.router_rules.specs.Links.{link_count, link_index}
use Rattle.router_rules.specs.Rules.{kinds}

-- a packet stands on the link by which it came
abbrev pub StandsIn : Option Config → (link interface : ℕ) → Type 0
StandsIn None link interface = ⊥
StandsIn (Some c) link interface = (link_index c interface ≡ link) × (link < link_count c)

-- the same packet with other bytes
abbrev pub with_bytes : List ℕ → Arrival kinds → Arrival kinds
with_bytes bytes x = arrival x.link x.datagram.interface x.number x.datagram.source x.datagram.moment bytes

abbrev pub asking : Arrival kinds → kinds.Problem → SlowPathRequest kinds
asking x problem = record { arrival = x; problem = problem }

-- what is made of a packet for the link of a number: itself, or its answer
abbrev pub parcel : Arrival kinds → Option Underlay → List ℕ → Parcel
parcel x to bytes = record { came_by = x.datagram.interface; to = to; bytes = bytes }

abbrev pub leaving : Arrival kinds → ℕ → Option Underlay → Outgoing kinds
leaving x link to = record { arrived = x.link; number = x.number; answer = false; link = link; parcel = parcel x to x.datagram.bytes }

abbrev pub answering : Arrival kinds → ℕ → Option Underlay → List ℕ → Outgoing kinds
answering x link to bytes = record { arrived = x.link; number = x.number; answer = true; link = link; parcel = parcel x to bytes }
