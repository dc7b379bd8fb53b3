-- Where a packet for this AS is delivered, and the port at which its host listens: that of the application for which its upper layer
-- is, where the AS has such ports, else that of the host's dispatcher.
use Rattle.std.specs.Prelude.{ℕ, Bool, ◌&&◌, nat_le, List, Option, Some, None, if◌then◌else◌}
use Rattle.host_ports.specs.Port.{destination_port}
use Rattle.scion_packet.specs.Header.{HeaderFields}
use Rattle.process_packet.specs.declared.port_range.PortRange.{PortRange}
use Rattle.process_packet.specs.declared.underlay.Underlay.{Underlay}
use Rattle.process_packet.specs.Network.{Network, reached_at}

-- both ends are in the range
abbrev pub has_in_range : PortRange → ℕ → Bool
has_in_range range port = nat_le range.first port && nat_le port range.last

-- the application's port, if it is there and in the range, else the dispatcher's
abbrev pub port_or : PortRange → ℕ → Option ℕ → ℕ
port_or range dispatcher None = dispatcher
port_or range dispatcher (Some port) = if has_in_range range port then port else dispatcher

-- where there is no range, all applications are behind dispatchers
abbrev pub port_among : Option PortRange → ℕ → ℕ → List ℕ → ℕ
port_among None dispatcher next_header payload = dispatcher
port_among (Some range) dispatcher next_header payload = port_or range dispatcher (destination_port next_header payload)

-- for the bytes after a header that names this next header
unfoldable pub host_port_of : Network → ℕ → List ℕ → ℕ
host_port_of n next_header payload = port_among n.dispatched_ports n.host_port next_header payload

-- where the destination of a packet with this header and payload is reached
abbrev pub delivered_at : Network → HeaderFields → List ℕ → Option Underlay
delivered_at n h payload = reached_at n (host_port_of n h.next_header payload) h.destination
