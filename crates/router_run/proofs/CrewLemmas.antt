-- A crew, some of whose closing marks were tried.
use Rattle.std.proofs.Common.{◌≡◌, ℕ, ◌+◌, ◌*◌, ◌<◌, List, length, slice_index_or, ◌∙◌, ap, arith}
use Rattle.process_packet.specs.declared.config.Config.{Config}
use Rattle.order_laws.specs.Item.{Outgoing}
use Rattle.router_rules.specs.Links.{link_count}
use Rattle.router_rules.specs.Rules.{kinds}
use Rattle.worker_processor.specs.Answering.{Answering}
use Rattle.worker_forwarder.specs.Forwarding.{Forwarding}
use Rattle.worker_receiver.specs.Receiving.{Receiving}
use Rattle.worker_processor.specs.Working.{Working}
use Rattle.worker_parts.specs.Outlets.{are_used}
use Rattle.run_ends.specs.Shutting.{Shutting}
use Rattle.run_pipes.specs.Closing.{StayEnds}
use Rattle.run_pipes.specs.Piping.{Piping}
use Rattle.run_pipes.proofs.ClosingLemmas.{shutters_long, used_at}
use Rattle.router_run.specs.Wiring.{IsCrew}
use Rattle.run_report.specs.Crew.{crew_of}

module _ {S G K : Type 0} (c : Config) (p : Piping) (rs : List (Receiving S)) (ws : List (Working G)) (s : Answering) (fs : List (Forwarding K)) where
  pub controller_long : (hs : List (Shutting (Outgoing kinds))) → IsCrew c p (crew_of rs ws s fs hs) → length hs ≡ 2 * link_count c
  controller_long hs is = shutters_long (are_used c) 0 (c.processors + 1) p.egress_packets hs is.shutters ∙ is.pipes.links

  pub controller_used : (hs : List (Shutting (Outgoing kinds))) → IsCrew c p (crew_of rs ws s fs hs) → (j : ℕ) (d : Shutting (Outgoing kinds)) → j < length hs → (slice_index_or hs j d).used ≡ are_used c j
  controller_used hs is j d lt = let z : 0 + j ≡ j = omega arith in used_at (are_used c) 0 (c.processors + 1) p.egress_packets hs j d is.shutters lt ∙ ap (are_used c) z

  -- a router of which some marks were tried
  pub crew_after : (old new : List (Shutting (Outgoing kinds))) → IsCrew c p (crew_of rs ws s fs old) → StayEnds old new → IsCrew c p (crew_of rs ws s fs new)
  crew_after old new is stay = record {
    pipes = is.pipes;
    receivers = is.receivers;
    processors = is.processors;
    slow = is.slow;
    forwarders = is.forwarders;
    shutters = stay.same (are_used c) 0 (c.processors + 1) p.egress_packets is.shutters;
    unended = stay.unended;
  }
