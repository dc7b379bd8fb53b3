-- The port at which an end host of this AS listens for a packet.
use Rattle.std.specs.Prelude.{◌≡◌, ◌≤◌, ◌<◌, ◌⊎◌, ℕ, List, ◌++◌, Some, None}
use Rattle.field_rows.specs.Row.{Fits, rows}
use Rattle.host_ports.specs.Messages.{UdpHeader, udp_table}
use Rattle.host_ports.specs.Packets.{AreExtensions, Extensions, behind}
use Rattle.host_ports.specs.Port.{destination_port}
use Rattle.scion_packet.specs.Extensions.{layer}
use Rattle.scion_packet.specs.Header.{HeaderFields}
use Rattle.process_packet.specs.declared.port_range.PortRange.{PortRange}
use Rattle.process_packet.specs.HostPort.{delivered_at, host_port_of}
use Rattle.process_packet.specs.Network.{Network, reached_at}

-- The bytes after a header that names this next header carry UDP, behind extension headers (RFC 768, "Format").
pub record CarriesUdp (next_header : ℕ) (payload : List ℕ) (u : UdpHeader) : Type 0 where
  pub extensions : Extensions
  pub rest : List ℕ
  pub lawful : AreExtensions extensions
  pub fits : Fits (udp_table u)
  pub next : next_header ≡ (behind extensions (layer 17 (rows (udp_table u) ++ rest))).protocol
  pub bytes : payload ≡ (behind extensions (layer 17 (rows (udp_table u) ++ rest))).bytes

-- The port of the application for which the packet is counts where it is in the range, of which both ends are part. Else, and where
-- there is no such port or no range, it is the dispatcher's. So goes a packet on a path of either kind.
pub record HostsListenSo : Type 0 where
  pub at_its_own : (n : Network) (next_header : ℕ) (payload : List ℕ) (range : PortRange) (port : ℕ) → n.dispatched_ports ≡ Some range
      → destination_port next_header payload ≡ Some port → range.first ≤ port → port ≤ range.last → host_port_of n next_header payload ≡ port
  pub out_of_range : (n : Network) (next_header : ℕ) (payload : List ℕ) (range : PortRange) (port : ℕ) → n.dispatched_ports ≡ Some range
      → destination_port next_header payload ≡ Some port → (port < range.first) ⊎ (range.last < port) → host_port_of n next_header payload ≡ n.host_port
  pub without_port : (n : Network) (next_header : ℕ) (payload : List ℕ) → destination_port next_header payload ≡ None → host_port_of n next_header payload ≡ n.host_port
  pub without_range : (n : Network) (next_header : ℕ) (payload : List ℕ) → n.dispatched_ports ≡ None → host_port_of n next_header payload ≡ n.host_port
  -- so is every packet delivered as if there were no such ports
  pub dispatched : (n : Network) (h : HeaderFields) (payload : List ℕ) → n.dispatched_ports ≡ None → delivered_at n h payload ≡ reached_at n n.host_port h.destination
  -- UDP for a port in the range is delivered there
  pub udp : (n : Network) (h : HeaderFields) (payload : List ℕ) (u : UdpHeader) (range : PortRange) → n.dispatched_ports ≡ Some range → CarriesUdp h.next_header payload u
      → range.first ≤ u.destination → u.destination ≤ range.last → delivered_at n h payload ≡ reached_at n u.destination h.destination
