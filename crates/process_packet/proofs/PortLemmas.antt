-- The port at which a host listens.
use Rattle.std.proofs.Common.{◌≡◌, ◌≤◌, ◌<◌, ◌⊎◌, ◌&&◌, ℕ, Bool, true, false, List, Option, Some, None, refl, ap, ap₂, ◌∙◌, inl, inr, if◌then◌else◌}
use Rattle.std.specs.Prelude.{nat_le}
use Rattle.std.proofs.lemmas.Bool.{le-leb, lt-leb}
use Rattle.host_ports.specs.Laws.{UdpGivesItsDestination}
use Rattle.host_ports.specs.Messages.{UdpHeader}
use Rattle.host_ports.specs.Port.{destination_port}
use Rattle.scion_packet.specs.Header.{HeaderFields}
use Rattle.process_packet.specs.declared.port_range.PortRange.{PortRange}
use Rattle.process_packet.specs.HostPort.{delivered_at, has_in_range, host_port_of, port_among, port_or}
use Rattle.process_packet.specs.Network.{Network, reached_at}
use Rattle.process_packet.specs.PortLaws.{CarriesUdp, HostsListenSo}

-- ---- the range

has_it : (range : PortRange) (port : ℕ) → range.first ≤ port → port ≤ range.last → has_in_range range port ≡ true
has_it range port from to = ap₂ (λ (a b : Bool). a && b) (le-leb range.first port from) (le-leb port range.last to)

out_by : (a b : Bool) → (a ≡ false) ⊎ (b ≡ false) → (a && b) ≡ false
out_by true b (inl never) = absurd cc
out_by true b (inr out) = out
out_by false b out = refl

lacks_it : (range : PortRange) (port : ℕ) → (port < range.first) ⊎ (range.last < port) → has_in_range range port ≡ false
lacks_it range port out =
    out_by (nat_le range.first port) (nat_le port range.last)
    (elim out [ inl below ↦ inl (lt-leb range.first port below) | inr above ↦ inr (lt-leb port range.last above) ])

chosen : (range : PortRange) (other port : ℕ) → has_in_range range port ≡ true → port_or range other (Some port) ≡ port
chosen range other port has = ap (λ (b : Bool). if b then port else other) has

passed_over : (range : PortRange) (other port : ℕ) → has_in_range range port ≡ false → port_or range other (Some port) ≡ other
passed_over range other port lacks = ap (λ (b : Bool). if b then port else other) lacks

-- ---- a packet

module _ (n : Network) (next_header : ℕ) (payload : List ℕ) where
  ranged : (range : PortRange) (o : Option ℕ) → n.dispatched_ports ≡ Some range → destination_port next_header payload ≡ o
      → host_port_of n next_header payload ≡ port_or range n.host_port o
  unfolding host_port_of
  ranged range o there is =
      ap (λ (r : Option PortRange). port_among r n.host_port next_header payload) there ∙ ap (λ (p : Option ℕ). port_or range n.host_port p) is

  pub without_range : n.dispatched_ports ≡ None → host_port_of n next_header payload ≡ n.host_port
  unfolding host_port_of
  without_range none = ap (λ (r : Option PortRange). port_among r n.host_port next_header payload) none

  pub at_its_own : (range : PortRange) (port : ℕ) → n.dispatched_ports ≡ Some range → destination_port next_header payload ≡ Some port → range.first ≤ port → port ≤ range.last
      → host_port_of n next_header payload ≡ port
  at_its_own range port there is from to = ranged range (Some port) there is ∙ chosen range n.host_port port (has_it range port from to)

  pub out_of_range : (range : PortRange) (port : ℕ) → n.dispatched_ports ≡ Some range → destination_port next_header payload ≡ Some port
      → (port < range.first) ⊎ (range.last < port) → host_port_of n next_header payload ≡ n.host_port
  out_of_range range port there is out = ranged range (Some port) there is ∙ passed_over range n.host_port port (lacks_it range port out)

  without_port_by : (o : Option PortRange) → n.dispatched_ports ≡ o → destination_port next_header payload ≡ None → host_port_of n next_header payload ≡ n.host_port
  without_port_by None there none = without_range there
  without_port_by (Some range) there none = ranged range None there none

  pub without_port : destination_port next_header payload ≡ None → host_port_of n next_header payload ≡ n.host_port
  without_port none = without_port_by n.dispatched_ports refl none

-- UDP for a port in the range
udp_in_range : UdpGivesItsDestination → (n : Network) (h : HeaderFields) (payload : List ℕ) (u : UdpHeader) (range : PortRange) → n.dispatched_ports ≡ Some range
    → CarriesUdp h.next_header payload u → range.first ≤ u.destination → u.destination ≤ range.last → delivered_at n h payload ≡ reached_at n u.destination h.destination
udp_in_range law n h payload u range there carries from to =
    let named : destination_port h.next_header payload ≡ Some u.destination =
    ap₂ destination_port carries.next carries.bytes ∙ law carries.extensions u carries.rest carries.lawful carries.fits in
    ap (λ (port : ℕ). reached_at n port h.destination) (at_its_own n h.next_header payload range u.destination there named from to)

pub listen_so : UdpGivesItsDestination → HostsListenSo
listen_so law = record {
  at_its_own = at_its_own;
  out_of_range = out_of_range;
  without_port = without_port;
  without_range = without_range;
  dispatched = λ n h payload none. ap (λ (port : ℕ). reached_at n port h.destination) (without_range n h.next_header payload none);
  udp = udp_in_range law;
}
