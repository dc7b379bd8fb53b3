-- Addresses of one IP version, and those that name no interface.
use Rattle.std.specs.Prelude.{Bool, true, false}
use Rattle.process_packet.specs.declared.underlay.Ip.{Ip}
use Rattle.process_packet.specs.declared.underlay.Ip.TheVariants.{V4, V6}
use Rattle.address_kinds.specs.Kind.{kind_of}
use Rattle.address_kinds.specs.declared.kind.AddressKind.{AddressKind}
use Rattle.address_kinds.specs.declared.kind.AddressKind.TheVariants as kind

abbrev pub is_one_version : Ip → Ip → Bool
is_one_version (V4 a) (V4 b) = true
is_one_version (V4 a) (V6 b) = false
is_one_version (V6 a) (V4 b) = false
is_one_version (V6 a) (V6 b) = true

abbrev pub names_none : AddressKind → Bool
names_none kind.Unicast = false
names_none kind.Unspecified = true
names_none kind.Loopback = false
names_none kind.Multicast = false
names_none kind.Broadcast = false
names_none kind.Mapped = false

abbrev pub is_unspecified : Ip → Bool
is_unspecified ip = names_none (kind_of ip)
