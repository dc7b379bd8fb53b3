-- What `router run` does over its sockets.
use Rattle.std.specs.Prelude.{◌≡◌, ◌⊎◌, ◌<◌, ℕ, ⊤, List, Option, Result, Ok, Err, map}
use Rattle.std.specs.List.{range_with_len}
use Rattle.process_packet.specs.declared.config.Config.{Config}
use Rattle.cli_io.specs.declared.fault.LinesFault.{LinesFault}
use Rattle.cli_io.specs.declared.fault.LinesFault.TheVariants as faults
use Rattle.router_rules.specs.Links.{interface_at, link_count}
use Rattle.router_run.specs.Starting.{Begins}
use Rattle.router_run.specs.declared.fault.StartFault.{StartFault}
use Rattle.router_run.specs.declared.fault.StartFault.TheVariants as begin
use Rattle.cli_run.specs.Run.{Ran}
use Rattle.cli_run.specs.declared.fault.RunFault.{RunFault}
use Rattle.cli_run.specs.declared.fault.RunFault.TheVariants as fault
use Rattle.udp_devices.specs.Binding.{sink_at, source_at}
use Rattle.udp_devices.specs.declared.binding.BindFault.{BindFault}
use Rattle.udp_devices.specs.declared.binding.BindFault.TheVariants as bind
use Rattle.udp_devices.specs.Devices.{Reading, Sending}
use Rattle.udp_router.specs.OverUdp.{Closes, Router, Tells}

-- the interfaces of the links, ascending
abbrev pub ascending : Config → List ℕ
ascending c = map (interface_at c) (range_with_len 0 (link_count c))

abbrev pub new_sources : Config → List Reading
new_sources c = map (source_at c) (range_with_len 0 (link_count c))

abbrev pub new_sinks : Config → List Sending
new_sinks c = map (sink_at c) (range_with_len 0 (link_count c))

-- It has a source and a sink at each link's own socket, in ascending order of the interfaces. None of them failed yet.
abbrev pub IsNew : Config → Router → Type 0
IsNew c r = Begins (λ k. k.failed) c (new_sources c) (new_sinks c) r

-- A new router of the configuration ran, led by these lines.
abbrev pub Leads : Config → Result (Unit {0}) LinesFault → List (List ℕ) → Option (List ℕ) → Option (List ℕ) → Type 0
Leads c result lines old new = (r : Router) × IsNew c r × Ran Closes Tells (ascending c) r result lines old new

-- It ran, or ran up to a fault of the reader, the writer or the engine; memory may lack before it starts.
abbrev pub Runs : Config → Result (Unit {0}) RunFault → List (List ℕ) → Option (List ℕ) → Option (List ℕ) → Type 0
Runs c (Ok done) lines old new = Leads c (Ok done) lines old new
Runs c (Err (fault.Lines e)) lines old new = ((e ≡ faults.Memory) × (new ≡ old)) ⊎ Leads c (Err e) lines old new
Runs c (Err (fault.Socket interface)) lines old new = new ≡ old
Runs c (Err fault.Metrics) lines old new = new ≡ old
Runs c (Err fault.NoMemory) lines old new = new ≡ old
Runs c (Err fault.Count) lines old new = new ≡ old
Runs c (Err fault.Thread) lines old new = new ≡ old

-- A socket's fault names a link of the router. There are always as many sources and sinks as links.
abbrev pub IsFault : Config → RunFault → Type 0
IsFault c (fault.Socket interface) = (index : ℕ) × (index < link_count c) × (interface ≡ interface_at c index)
IsFault c fault.Metrics = ⊤
IsFault c fault.NoMemory = ⊤
IsFault c fault.Count = ⊥
IsFault c fault.Thread = ⊤
IsFault c (fault.Lines e) = ⊤

-- it comes before anything is read or written
abbrev pub ComesFirst : RunFault → Type 0
ComesFirst (fault.Socket interface) = ⊤
ComesFirst fault.Metrics = ⊤
ComesFirst fault.NoMemory = ⊤
ComesFirst fault.Count = ⊤
ComesFirst fault.Thread = ⊤
ComesFirst (fault.Lines e) = ⊥

-- ---- what the faults of its parts mean

abbrev pub unbound : BindFault → RunFault
unbound (bind.Socket interface) = fault.Socket interface
unbound bind.Memory = fault.Lines faults.Memory

module _ {S K : Type 0} where
  abbrev pub unstarted : StartFault S K → RunFault
  unstarted (begin.NoMemory sources sinks) = fault.NoMemory
  unstarted (begin.Count sources sinks) = fault.Count
  unstarted begin.Thread = fault.Thread
