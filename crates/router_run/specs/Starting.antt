-- How a router starts.
use Rattle.std.specs.Prelude.{◌≡◌, ◌+◌, ◌-◌, ℕ, List, map, length}
use Rattle.process_packet.specs.declared.config.Config.{Config}
use Rattle.worker_forwarder.specs.Forwarding.{Forwarding}
use Rattle.worker_receiver.specs.Receiving.{Receiving}
use Rattle.router_rules.specs.Links.{link_count}
use Rattle.worker_parts.specs.Outlets.{are_used}
use Rattle.run_ends.specs.Rows.{fresh_ends}
use Rattle.run_ends.specs.Shutting.{AreNew}
use Rattle.run_pipes.specs.Filling.{AreFilled}
use Rattle.router_run.specs.Run.{Run}
use Rattle.router_run.specs.Wiring.{IsCrew}
use Rattle.router_run.specs.declared.fault.StartFault.{StartFault}
use Rattle.router_run.specs.declared.fault.StartFault.TheVariants.{NoMemory, Count, Thread}

module _ {S K : Type 0} where
  -- one source and one sink a link
  abbrev pub IsOneALink : ℕ → List S → List K → Type 0
  IsOneALink links xs ys = (length xs ≡ links) × (length ys ≡ links)

module _ {S G K : Type 0} (failed : K → ℕ) where
  -- It has these devices, one a link, in their order; the sinks had failed so often before. Its pipes are those that the configuration
  -- asks for, and each worker has its own number, link and ends. No mark was pushed into a link's pipe yet, and all free buffers
  -- are there: one with each receiver, the others in their pipes.
  pub record Begins (c : Config) (sources : List S) (sinks : List K) (r : Run S G K) : Type 0 where
    pub config : r.config ≡ c
    pub one_a_link : IsOneALink (link_count c) sources sinks
    pub sources_are : map (λ (w : Receiving S). w.source) r.crew.receivers ≡ sources
    pub sinks_are : map (λ (f : Forwarding K). f.side.sink) r.crew.forwarders ≡ sinks
    pub began : map (λ (f : Forwarding K). f.began) r.crew.forwarders ≡ map failed sinks
    pub crew : IsCrew c r.pipes r.crew
    pub unmarked : AreNew (are_used c) 0 (fresh_ends (c.processors + 1) r.pipes.egress_packets) r.crew.shutters
    pub filled : AreFilled (c.processors + 1 + link_count c) (c.buffers - 1) r.pipes.free r.fillers

module _ {S K : Type 0} where
  -- Both lists come back as they were; the count is wrong just where one has not one device a link.
  abbrev pub GivesBack : ℕ → StartFault S K → List S → List K → Type 0
  GivesBack links (NoMemory a b) xs ys = (a.items ≡ xs) × (b.items ≡ ys) × IsOneALink links xs ys
  GivesBack links (Count a b) xs ys = (a.items ≡ xs) × (b.items ≡ ys) × (IsOneALink links xs ys → ⊥)
  GivesBack links Thread xs ys = IsOneALink links xs ys
