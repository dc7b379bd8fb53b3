-- A router's workers over their pipes, as they begin.
use Rattle.std.specs.Prelude.{◌≡◌, ℕ, ◌+◌}
use Rattle.process_packet.specs.declared.config.Config.{Config}
use Rattle.worker_forwarder.specs.Forwarding.{Forwarding}
use Rattle.worker_receiver.specs.Receiving.{Receiving}
use Rattle.worker_parts.specs.Outlets.{are_used}
use Rattle.run_ends.specs.Shutting.{AreUnended, AreShutters}
use Rattle.run_report.specs.Crew.{Crew}
use Rattle.run_pipes.specs.Piping.{Piping, IsPiping}
use Rattle.run_pipes.specs.Rest.{IsRest}
use Rattle.router_rules.specs.Links.{interface_at, link_count}
use Rattle.run_workers.specs.Kits.{Entry, Exit, IsAnsweringAt, IsEnteringAt, IsLeavingAt, IsWorkingThere}

module _ {S : Type 0} where
  -- a receiver without its source
  abbrev pub entry_of : Receiving S → Entry
  entry_of r = record { config = r.side.config; link = r.side.link; free = r.side.stock.free; processors = r.side.processors; share = r.side.share }

  -- the receiver of a link has its interface, and the ends that it was made with
  abbrev pub IsReceivingAt : Config → Piping → ℕ → Receiving S → Type 0
  IsReceivingAt c p a r = IsEnteringAt c p a (entry_of r) × (r.side.interface ≡ interface_at c a)

module _ {K : Type 0} where
  -- a forwarder without its sink
  abbrev pub exit_of : Forwarding K → Exit
  exit_of f = record { config = f.side.config; link = f.link; low = f.low; high = f.high; free = f.side.free; share = f.side.share }

  -- the forwarder of a link has the ends that it was made with
  abbrev pub IsForwardingAt : Config → Piping → ℕ → Forwarding K → Type 0
  IsForwardingAt c p l f = IsLeavingAt c p l (exit_of f)

-- Each worker has its ends of these pipes: one receiver and one forwarder a link, the processors by their numbers.
pub record IsCrew {S G K : Type 0} (c : Config) (p : Piping) (w : Crew S G K) : Type 0 where
  pub pipes : IsPiping c p
  pub receivers : IsRest (IsReceivingAt c p) 0 (link_count c) w.receivers
  pub processors : IsRest (IsWorkingThere c p) 0 c.processors w.processors
  pub slow : IsAnsweringAt c p w.slow
  pub forwarders : IsRest (IsForwardingAt c p) 0 (link_count c) w.forwarders
  pub shutters : AreShutters (are_used c) 0 (c.processors + 1) p.egress_packets w.shutters
  pub unended : AreUnended w.shutters
