-- The system's addresses as the underlay's.
use Rattle.std.specs.Net.Addr.{ipv4_octets, ipv6_octets}
use Rattle.std.specs.Net.Socket.{socket_ip, socket_port}
use Rattle.std.specs.declared.net.ip_addr.IpAddr.{IpAddr}
use Rattle.std.specs.declared.net.ip_addr.IpAddr.TheVariants as system
use Rattle.std.specs.declared.net.socket_addr.SocketAddr.{SocketAddr}
use Rattle.process_packet.specs.declared.underlay.Ip.{Ip}
use Rattle.process_packet.specs.declared.underlay.Ip.TheVariants as ip
use Rattle.process_packet.specs.declared.underlay.Underlay.{Underlay}

abbrev pub ip_of : IpAddr → Ip
ip_of (system.V4 a) = ip.V4 (ipv4_octets a)
ip_of (system.V6 a) = ip.V6 (ipv6_octets a)

abbrev pub underlay_of : SocketAddr → Underlay
underlay_of a = record { ip = ip_of (socket_ip a); port = socket_port a }
