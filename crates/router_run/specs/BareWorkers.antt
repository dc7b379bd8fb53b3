-- What stands ready before the devices are taken: the pipes, of which all ends are made, and what the workers are made of.
use Rattle.std.specs.Prelude.{◌+◌, ◌-◌, ℕ, List}
use Rattle.order_laws.specs.Item.{Outgoing}
use Rattle.router_rules.specs.Rules.{kinds}
use Rattle.process_packet.specs.declared.config.Config.{Config}
use Rattle.worker_processor.specs.Answering.{Answering}
use Rattle.worker_processor.specs.Working.{Working}
use Rattle.ruled_pipe.specs.Producer.{Sender}
use Rattle.run_ends.specs.Rows.{fresh_ends}
use Rattle.run_ends.specs.Shutting.{AreNew, Shutting}
use Rattle.router_rules.specs.Links.{link_count}
use Rattle.worker_parts.specs.Outlets.{are_used}
use Rattle.router_run.specs.declared.bare_workers.BareWorkers.{BareWorkers}
use Rattle.run_workers.specs.Kits.{Entry, Exit, IsAnsweringAt, IsEnteringAt, IsLeavingAt, IsWorkingThere}
use Rattle.run_pipes.specs.Filling.{AreFilled}
use Rattle.run_pipes.specs.Piping.{Piping}
use Rattle.run_pipes.specs.Pipes.{HaveMade, piping_of}
use Rattle.run_pipes.specs.declared.pipes.Pipes.{Pipes}
use Rattle.run_pipes.specs.Rest.{IsRest}

-- every worker, the controller and whoever fills the pipes of free buffers got their ends
abbrev pub AllMade : {N : Type 0} → Config → Piping → Pipes N → Type 0
AllMade c p k = HaveMade c (link_count c) c.processors (c.processors + 2) (c.processors + 2 + link_count c) p k

-- the workers after the receivers, and the controller's ends
pub record AreAfterReceivers {G : Type 0} (c : Config) (p : Piping) (processors : List (Working G)) (slow : Answering) (forwarders : List Exit) (shutters : List (Shutting (Outgoing kinds))) : Type 0 where
  pub working : IsRest (IsWorkingThere c p) 0 c.processors processors
  pub answering : IsAnsweringAt c p slow
  pub leaving : IsRest (IsLeavingAt c p) 0 (link_count c) forwarders
  pub shutting : AreNew (are_used c) 0 (fresh_ends (c.processors + 1) p.egress_packets) shutters

-- all over these pipes
pub record AreOver {N G : Type 0} (p : Piping) (c : Config) (k : Pipes N) (receivers : List Entry) (processors : List (Working G)) (slow : Answering) (forwarders : List Exit) (shutters : List (Shutting (Outgoing kinds))) (fillers : List (Sender (List ℕ))) : Type 0 where
  pub made : AllMade c p k
  pub entering : IsRest (IsEnteringAt c p) 0 (link_count c) receivers
  pub after : AreAfterReceivers c p processors slow forwarders shutters
  pub filled : AreFilled (c.processors + 1 + link_count c) (c.buffers - 1) p.free fillers

abbrev pub AreBareWorkers : {N G : Type 0} → Config → BareWorkers N G → Type 0
AreBareWorkers c w = AreOver (piping_of w.pipes) c w.pipes w.receivers.items w.processors.items w.slow w.forwarders.items w.shutters.items w.fillers.items
