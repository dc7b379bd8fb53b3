-- A run: what it began with, and what it came to.
use Rattle.std.specs.Prelude.{◌≡◌, ◌+◌, ◌≤◌, ℕ, List, map, Option, Some, slice_get, slice_index}
use Rattle.packet_ledger.specs.Share.{forwarded}
use Rattle.packet_ledger.specs.Shown.{Shown}
use Rattle.process_packet.specs.declared.config.Config.{Config}
use Rattle.process_packet.specs.declared.totals.Totals.{Totals}
use Rattle.worker_order.specs.Heard.{Heard}
use Rattle.worker_order.specs.Returned as returned
use Rattle.worker_order.specs.Totals.{totals_of}
use Rattle.worker_forwarder.specs.Forwarding.{Forwarding}
use Rattle.worker_receiver.specs.Receiving.{EndsQuietly, Receiving}
use Rattle.ruled_pipe.specs.Producer.{Sender}
use Rattle.order_laws.specs.Deeds.{Each}
use Rattle.router_rules.specs.Links.{link_count}
use Rattle.worker_parts.specs.Told.{Told, told_of}
use Rattle.run_ends.specs.Shutting.{closed_at}
use Rattle.run_report.specs.Crew.{Crew}
use Rattle.run_pipes.specs.Piping.{Piping}
use Rattle.router_run.specs.Back.{IsBack, HasSettled, back_of}
use Rattle.router_run.specs.Promises.{KeepsItsPromises}

-- a run: its configuration, its pipes, the ends that filled those of free buffers, and its workers and the controller's ends as
-- they began
pub record Run (S G K : Type 0) : Type 0 where
  pub config : Config
  pub pipes : Piping
  pub fillers : List (Sender (List ℕ))
  pub crew : Crew S G K

-- No row of a forwarder, which stand in a look in the order of the links after those of the receivers, the processors and the slow
-- path, is above what its link sent.
abbrev pub SentWithin : Config → Shown → List ℕ → Type 0
SentWithin c look sent = (l n : ℕ) → slice_get sent l ≡ Some n → slice_index look.outputs (link_count c + c.processors + 1 + l) ≤ n

-- the same router, but for the controller's ends
pub record IsSameRun {S G K : Type 0} (old new : Run S G K) : Type 0 where
  pub config : new.config ≡ old.config
  pub pipes : new.pipes ≡ old.pipes
  pub fillers : new.fillers ≡ old.fillers
  pub receivers : new.crew.receivers ≡ old.crew.receivers
  pub processors : new.crew.processors ≡ old.crew.processors
  pub slow : new.crew.slow ≡ old.crew.slow
  pub forwarders : new.crew.forwarders ≡ old.crew.forwarders

module _ {S G K : Type 0} (told : S → Option (List Heard)) (shown : K → Option (List Told)) (failed : K → ℕ) (same_source : S → S → Type 0) (same_sink : K → K → Type 0) where
  -- Its workers came back, each the same over the same device, and ended, and what they did is what the running theorem says. The report has their totals,
  -- what each sink took, and the sources and sinks, in the order of the links.
  pub record RouterHasRun (r : Run S G K) (totals : Totals) (sent : List ℕ) (sources : List S) (sinks : List K) : Type 0 where
    -- to be read aloud; what follows is finer
    pub promises : KeepsItsPromises told shown r.config (closed_at r.crew.shutters) totals sent sources sinks
    pub crew : Crew S G K
    pub back : IsBack same_source same_sink r.crew crew
    pub settled : HasSettled r.pipes crew
    -- each source that tells was asked to an answer that is no datagram, or gave 2^56 datagrams
    pub asked : Each (λ (w : Receiving S). EndsQuietly w.number (told w.source)) crew.receivers
    pub ran : returned.WorkersHaveRun told_of r.config (back_of told shown failed crew) (closed_at crew.shutters)
    pub totals_are : totals ≡ totals_of (returned.shares_of (back_of told shown failed crew))
    pub sent_are : sent ≡ map (λ (f : Forwarding K). forwarded f.side.share) crew.forwarders
    pub sources_are : sources ≡ map (λ (w : Receiving S). w.source) crew.receivers
    pub sinks_are : sinks ≡ map (λ (f : Forwarding K). f.side.sink) crew.forwarders
