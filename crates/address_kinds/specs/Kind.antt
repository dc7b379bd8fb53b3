-- What an IP address stands for (RFC 1122, section 3.2.1.3; RFC 5735, section 3; RFC 4291, sections 2.4 to 2.7).
use Rattle.std.specs.Prelude.{ℕ, List, [], ◌∷◌, ◌==◌, ◌&&◌, if◌then◌else◌, nat_le, take, slice_index}
use Rattle.std.specs.Str.{bytes_eq}
use Rattle.process_packet.specs.declared.underlay.Ip.{Ip}
use Rattle.process_packet.specs.declared.underlay.Ip.TheVariants.{V4, V6}
use Rattle.address_kinds.specs.declared.kind.AddressKind.{AddressKind}
use Rattle.address_kinds.specs.declared.kind.AddressKind.TheVariants as kind

-- 0.0.0.0 names no interface, 255.255.255.255 all of this network, 127.0.0.0/8 the machine itself, 224.0.0.0/4 groups
abbrev pub kind_of_v4 : List ℕ → AddressKind
kind_of_v4 a = if bytes_eq a (0 ∷ 0 ∷ 0 ∷ 0 ∷ []) then kind.Unspecified
    else if bytes_eq a (255 ∷ 255 ∷ 255 ∷ 255 ∷ []) then kind.Broadcast
    else if slice_index a 0 == 127 then kind.Loopback
    else if nat_le 224 (slice_index a 0) && nat_le (slice_index a 0) 239 then kind.Multicast
    else kind.Unicast

-- `::` names no interface, `::1` the machine itself, ff00::/8 groups; ::ffff:0:0/96 are addresses of IPv4
abbrev pub kind_of_v6 : List ℕ → AddressKind
kind_of_v6 a = if bytes_eq a (0 ∷ 0 ∷ 0 ∷ 0 ∷ 0 ∷ 0 ∷ 0 ∷ 0 ∷ 0 ∷ 0 ∷ 0 ∷ 0 ∷ 0 ∷ 0 ∷ 0 ∷ 0 ∷ []) then kind.Unspecified
    else if bytes_eq a (0 ∷ 0 ∷ 0 ∷ 0 ∷ 0 ∷ 0 ∷ 0 ∷ 0 ∷ 0 ∷ 0 ∷ 0 ∷ 0 ∷ 0 ∷ 0 ∷ 0 ∷ 1 ∷ []) then kind.Loopback
    else if slice_index a 0 == 255 then kind.Multicast
    else if bytes_eq (take 12 a) (0 ∷ 0 ∷ 0 ∷ 0 ∷ 0 ∷ 0 ∷ 0 ∷ 0 ∷ 0 ∷ 0 ∷ 255 ∷ 255 ∷ []) then kind.Mapped
    else kind.Unicast

abbrev pub kind_of : Ip → AddressKind
kind_of (V4 a) = kind_of_v4 a
kind_of (V6 a) = kind_of_v6 a
