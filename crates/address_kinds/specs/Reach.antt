-- Which addresses a host can have, as a machine sees it.
use Rattle.std.specs.Prelude.{Bool, true, false}
use Rattle.process_packet.specs.declared.underlay.Ip.{Ip}
use Rattle.address_kinds.specs.Kind.{kind_of}
use Rattle.address_kinds.specs.declared.kind.AddressKind.{AddressKind}
use Rattle.address_kinds.specs.declared.kind.AddressKind.TheVariants as kind

abbrev pub is_loopback : AddressKind → Bool
is_loopback kind.Unicast = false
is_loopback kind.Unspecified = false
is_loopback kind.Loopback = true
is_loopback kind.Multicast = false
is_loopback kind.Broadcast = false
is_loopback kind.Mapped = false

-- A host has a unicast address; one on the machine itself a loopback address, which nothing is sent to from another.
abbrev pub reaches : AddressKind → AddressKind → Bool
reaches own kind.Unicast = true
reaches own kind.Unspecified = false
reaches own kind.Loopback = is_loopback own
reaches own kind.Multicast = false
reaches own kind.Broadcast = false
reaches own kind.Mapped = false

abbrev pub is_host_for : Ip → Ip → Bool
is_host_for own to = reaches (kind_of own) (kind_of to)
