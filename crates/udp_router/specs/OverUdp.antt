-- A router that runs over its sockets, as the one who runs it sees it.
use Rattle.std.specs.Prelude.{◌≡◌, ⊤, ℕ, List, None, Result, Ok, Err}
use Rattle.cli_run.specs.declared.closing.Closing.{Closing}
use Rattle.cli_run.specs.declared.closing.Closing.TheVariants as closing
use Rattle.run_pipes.specs.Closing.{Closing as Marking}
use Rattle.router_run.specs.Run.{RouterHasRun, IsSameRun, Run}
use Rattle.run_pipes.specs.declared.closing.CloseFault.{CloseFault}
use Rattle.run_pipes.specs.declared.closing.CloseFault.TheVariants as fault
use Rattle.cli_run.specs.declared.control.Figures.{Figures}
use Rattle.udp_devices.specs.Devices.{Reading, Sending}

-- A source over a socket is seen as the address at which that was opened, and how often it failed; the gate holds nothing back.
abbrev pub Router : Type 0
Router = Run Reading ⊤ Sending

abbrev pub result_of : Closing → Result (Unit {0}) CloseFault
result_of closing.Closed = Ok tt
result_of closing.Full = Err fault.Full
result_of closing.Unknown = Err fault.Unknown
result_of closing.Already = Err fault.AlreadyClosed

-- What is told of a link is what became of its closing marks, and all else of the router is as it was.
pub record Closes (before : Router) (link : ℕ) (told : Closing) (after : Router) : Type 0 where
  pub marks : Marking before.config link (result_of told) before.crew.shutters after.crew.shutters
  pub same : IsSameRun before after

-- The figures are those of a run of it. Neither its sources nor its sinks tell what a socket gave or took.
abbrev pub Tells : Router → Figures → Type 0
Tells router figures = (sources : List Reading) × (sinks : List Sending) × RouterHasRun (λ s. None) (λ k. None) (λ k. k.failed) (λ a b. b.local ≡ a.local) (λ a b. b.ends ≡ a.ends) router figures.totals figures.sent.items sources sinks
