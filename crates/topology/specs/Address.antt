-- Addresses of the underlay, as scionproto writes them: `1.2.3.4:5`, or `[fd00::1]:5`.
use Rattle.std.specs.Prelude.{◌==◌, if◌then◌else◌, ℕ, List, Option, Some, None}
use Rattle.std.specs.Net.Addr.{ipv4_octets, ipv6_octets, octets_of}
use Rattle.std.specs.Net.Reader.{read_socket_v4, read_socket_v6, whole_value}
use Rattle.std.specs.Net.Socket.{socket_port, v4_ip, v6_ip, v6_scope_id}
use Rattle.std.specs.declared.net.socket_addr.SocketAddr.{SocketAddr}
use Rattle.std.specs.declared.net.socket_addr.SocketAddr.TheVariants as socket
use Rattle.process_packet.specs.declared.underlay.Ip.{Ip}
use Rattle.process_packet.specs.declared.underlay.Ip.TheVariants.{V4, V6}
use Rattle.process_packet.specs.declared.underlay.Underlay.{Underlay}
use Rattle.text_values.specs.Pieces.{◌>>=◌}

-- port 0 is none
abbrev pub with_port : Ip → ℕ → Option Underlay
with_port ip port = if port == 0 then None else Some (record { ip = ip; port = port })

-- without a scope, which is good on one of the machine's networks alone
abbrev pub unscoped : ℕ → Ip → ℕ → Option Underlay
unscoped scope ip port = if scope == 0 then with_port ip port else None

abbrev pub underlay_of : SocketAddr → Option Underlay
underlay_of (socket.V4 a) = with_port (V4 (ipv4_octets (v4_ip a))) (socket_port (socket.V4 a))
underlay_of (socket.V6 a) = unscoped (v6_scope_id a) (V6 (ipv6_octets (v6_ip a))) (socket_port (socket.V6 a))

-- of octets and a port
abbrev pub of_version_4 : List ℕ × ℕ → Option Underlay
of_version_4 parts = with_port (V4 parts.0) parts.1

-- of segments, a port, flow information and a scope
abbrev pub of_version_6 : List ℕ × ℕ × ℕ × ℕ → Option Underlay
of_version_6 parts = unscoped parts.3 (V6 (octets_of parts.0)) parts.1

abbrev pub of_either : Option (List ℕ × ℕ) → Option (List ℕ × ℕ × ℕ × ℕ) → Option Underlay
of_either (Some parts) other = of_version_4 parts
of_either None other = other >>= of_version_6

-- the address and port that a text is
unfoldable pub address_of : List ℕ → Option Underlay
address_of text = of_either (whole_value (read_socket_v4 text)) (whole_value (read_socket_v6 text))
