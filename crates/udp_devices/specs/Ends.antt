-- The ends of a link, and where what leaves by it goes.
use Rattle.std.specs.Prelude.{◌≡◌, ℕ, Bool, true, false, ◌==◌, ◌&&◌, find, Option, Some, None, if◌then◌else◌}
use Rattle.address_kinds.specs.Reach.{is_host_for}
use Rattle.std.specs.Net.Socket.{IsPlainSocket, socket_port}
use Rattle.std.specs.declared.net.socket_addr.SocketAddr.{SocketAddr}
use Rattle.process_packet.specs.declared.config.Config.{Config}
use Rattle.process_packet.specs.declared.neighbours.Link.{Link}
use Rattle.process_packet.specs.declared.underlay.Ip.{Ip}
use Rattle.process_packet.specs.declared.underlay.Ip.TheVariants.{V4, V6}
use Rattle.process_packet.specs.declared.underlay.Underlay.{Underlay}
use Rattle.udp_devices.specs.Address.{underlay_of}
use Rattle.udp_devices.specs.declared.ends.Ends.{Ends}

-- of a link to another AS, and of the internal network where there is none
abbrev pub ends_or : Underlay → Option Link → Ends
ends_or internal None = record { local = internal; remote = None }
ends_or internal (Some own) = record { local = own.local; remote = Some own.remote }

abbrev pub ends_of : Config → ℕ → Ends
ends_of c interface = ends_or c.internal (find (λ own. own.id == interface) c.links.items)

abbrev pub is_same_family : Ip → Ip → Bool
is_same_family (V4 a) (V4 b) = true
is_same_family (V4 a) (V6 b) = false
is_same_family (V6 a) (V4 b) = false
is_same_family (V6 a) (V6 b) = true

-- an address that the link's own can send to: of its IP version, and one that a host can have
abbrev pub reachable : Underlay → Option Underlay → Option Underlay
reachable local None = None
reachable local (Some to) = if is_same_family local.ip to.ip && is_host_for local.ip to.ip then Some to else None

abbrev pub named_or : Option Underlay → Option Underlay → Option Underlay
named_or None remote = remote
named_or (Some to) remote = Some to

-- the address that a datagram names, and else the link's other end
abbrev pub destination : Ends → Option Underlay → Option Underlay
destination ends to = reachable ends.local (named_or to ends.remote)

-- the system's address of a destination, without flow information and in no scope; none where there is none
abbrev pub IsAddressOf : Option SocketAddr → Option Underlay → Type 0
IsAddressOf None to = to ≡ None
IsAddressOf (Some address) to = (to ≡ Some (underlay_of address)) × IsPlainSocket address (socket_port address)
