-- All workers of a run, with the controller's ends.
use Rattle.std.specs.Prelude.{List, [], ◌∷◌, map, ◌++◌}
use Rattle.order_laws.specs.Settled.{SlowPathRequest}
use Rattle.ruled_pipe.specs.Consumer.{Taker}
use Rattle.router_rules.specs.Rules.{kinds}
use Rattle.worker_processor.specs.Answering.{Answering}
use Rattle.worker_forwarder.specs.Forwarding.{Forwarding}
use Rattle.worker_receiver.specs.Receiving.{Receiving}
use Rattle.worker_processor.specs.Working.{Working}
use Rattle.worker_parts.specs.Outlets.{senders}
use Rattle.run_ends.specs.Shutting.{shutter_ends, Shutting}
use Rattle.order_laws.specs.Item.{Outgoing, Arrival}
use Rattle.ruled_pipe.specs.Producer.{Sender}
use Rattle.run_report.specs.declared.joined.Joined.{Joined}

-- the workers, and the controller's ends
pub record Crew (S G K : Type 0) : Type 0 where
  pub receivers : List (Receiving S)
  pub processors : List (Working G)
  pub slow : Answering
  pub forwarders : List (Forwarding K)
  pub shutters : List (Shutting (Outgoing kinds))

abbrev pub crew_of : {S G K : Type 0} → List (Receiving S) → List (Working G) → Answering → List (Forwarding K) → List (Shutting (Outgoing kinds)) → Crew S G K
crew_of receivers processors slow forwarders shutters = record { receivers = receivers; processors = processors; slow = slow; forwarders = forwarders; shutters = shutters }

-- those that came back
abbrev pub crew_in : {N S K G : Type 0} → Joined N S K G → Crew S G K
crew_in j = crew_of j.receivers.items j.processors.items j.slow j.forwarders.items j.shutters.items

module _ {S G K : Type 0} where
  -- the workers' ends, by workers, and the consumers, by pipes
  abbrev pub packet_rows : Crew S G K → List (List (Sender (Arrival kinds)))
  packet_rows w = map (λ (r : Receiving S). senders r.side.processors) w.receivers

  abbrev pub packet_takers : Crew S G K → List (Taker (Arrival kinds))
  packet_takers w = map (λ (p : Working G). p.taker) w.processors

  abbrev pub request_row : Crew S G K → List (Sender (SlowPathRequest kinds))
  request_row w = map (λ (p : Working G). p.slow.sender) w.processors

  abbrev pub egress_rows : Crew S G K → List (List (Sender (Outgoing kinds)))
  egress_rows w = map (λ (p : Working G). senders p.side.links) w.processors ++ (senders w.slow.side.links ∷ shutter_ends w.shutters ∷ [])

module _ {K : Type 0} where
  -- of each forwarder both
  abbrev pub takers_of : List (Forwarding K) → List (Taker (Outgoing kinds))
  takers_of [] = []
  takers_of (f ∷ fs) = f.low.taker ∷ f.high.taker ∷ takers_of fs
