-- What stands bound.
use Rattle.std.specs.Prelude.{◌≡◌, ◌<◌, ⊤, ℕ}
use Rattle.process_packet.specs.declared.config.Config.{Config}
use Rattle.router_rules.specs.Links.{interface_at, link_count}
use Rattle.udp_devices.specs.Devices.{Reading, Sending}
use Rattle.udp_devices.specs.Ends.{ends_of}
use Rattle.udp_devices.specs.declared.binding.BindFault.{BindFault}
use Rattle.udp_devices.specs.declared.binding.BindFault.TheVariants as fault

-- the source of the link with a number
abbrev pub source_at : Config → ℕ → Reading
source_at c index = record { local = (ends_of c (interface_at c index)).local; failed = 0 }

-- its sink
abbrev pub sink_at : Config → ℕ → Sending
sink_at c index = record { ends = ends_of c (interface_at c index); failed = 0 }

-- a fault names a link of the router
abbrev pub IsOfRouter : Config → BindFault → Type 0
IsOfRouter c (fault.Socket interface) = (index : ℕ) × (index < link_count c) × (interface ≡ interface_at c index)
IsOfRouter c fault.Memory = ⊤
