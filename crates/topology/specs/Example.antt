-- A topology of two border routers, and what a reader of scionproto's manual would take it to say to the first of them.
use Rattle.std.specs.Prelude.{◌≡◌, ℕ, true, false, List, [], ◌∷◌, Some, None, codes, refl}
use Rattle.std.specs.Fmt.{digits}
use Rattle.std.specs.Net.Reader.{read_ipv4, read_ipv6, read_number, read_octet, read_port, read_scope_id, read_segment, read_segments, read_socket_v4, read_socket_v6}
use Rattle.serde_json.specs.Data.{Data, Members, boolean, member, no_members, object, string}
use Rattle.process_packet.specs.declared.underlay.Ip.TheVariants.{V4, V6}
use Rattle.process_packet.specs.declared.underlay.Underlay.{Underlay}
use Rattle.segment_switch.specs.declared.kind.LinkKind.TheVariants.{Core, Parent, Child}
use Rattle.topology.specs.Address.{address_of}
use Rattle.topology.specs.Bfd.{bfd_of}
use Rattle.topology.specs.Entry.{address_at, isd_as_at, object_if_there}
use Rattle.topology.specs.Interface.{interface_of, link_of, local_of, of_kind, provider_of, public_of, relation_at, relation_of}
use Rattle.topology.specs.LeftOut.{further, peering, provider, timer}
use Rattle.topology.specs.Place.{bfd, control, interface}
use Rattle.topology.specs.PortRange.{ports_of, range_of}
use Rattle.topology.specs.Routers.{left_at, links_at, peer_at, peers_at, peers_unless, sibling_of, siblings_at, siblings_by, siblings_unless, timer_in, timers_of}
use Rattle.topology.specs.Servers.{further_of, left_of_services, service_of, services_of}
use Rattle.topology.specs.Topology.{TopologyValues, lists_of, ports_at, topology_of}
use Rattle.topology.specs.declared.interface.Relation.TheVariants.{Kind}

abbrev pub one : List ℕ → Data → Members
one key d = member key d no_members

abbrev pub at : ℕ → ℕ → Underlay
at last port = record { ip = V4 (10 ∷ 1 ∷ 0 ∷ last ∷ []); port = port }

-- ---- interfaces

abbrev pub ends : Members
ends = member (codes "local") (string (codes "10.1.0.1:40000")) (one (codes "remote") (string (codes "10.1.0.2:40001")))

abbrev pub leads_to : List ℕ → Members → Members
leads_to word underlay = member (codes "isd_as") (string (codes "1-ff00:0:111")) (member (codes "link_to") (string word) (one (codes "underlay") (object underlay)))

abbrev pub to_parent : Data
to_parent = object (member (codes "bfd") (object (one (codes "detect_mult") (string (codes "5")))) (leads_to (codes "parent") ends))

abbrev pub to_peer : Data
to_peer = object (leads_to (codes "PEER") ends)

abbrev pub over_ethernet : Data
over_ethernet = object (leads_to (codes "child") (one (codes "provider") (string (codes "ethernet"))))

-- ---- the topology

abbrev pub router : List ℕ → Members → Data
router address interfaces = object (member (codes "interfaces") (object interfaces) (one (codes "internal_addr") (string address)))

abbrev pub server : List ℕ → Data
server address = object (one (codes "addr") (string address))

abbrev pub routers : Members
routers = member (codes "br1") (router (codes "10.1.0.1:30000") (member (codes "1") to_parent (member (codes "2") to_peer (one (codes "3") over_ethernet))))
    (one (codes "br2") (router (codes "10.1.0.7:30001") (member (codes "4") (object (one (codes "link_to") (string (codes "core")))) (one (codes "5") to_peer))))

abbrev pub topology : Data
topology = object (member (codes "border_routers") (object routers)
    (member (codes "control_service") (object (member (codes "cs1") (server (codes "10.1.0.9:30252")) (one (codes "cs2") (server (codes "10.1.0.6:30252")))))
    (member (codes "discovery_service") (object (one (codes "ds1") (server (codes "10.1.0.8:30253"))))
    (member (codes "dispatched_ports") (string (codes "31000-32767"))
    (one (codes "isd_as") (string (codes "1-ff00:0:110")))))))

abbrev pub said : TopologyValues
said = record {
  isd_as = codes "1-ff00:0:110";
  internal = at 1 30000;
  ports = Some (record { first = 31000; last = 32767 });
  lists = record {
    links = record { id = 1; kind = Parent; local = at 1 40000; remote = at 2 40001; neighbor = codes "1-ff00:0:111"; bfd = true } ∷ [];
    siblings = record { id = 4; kind = Core; at = at 7 30001 } ∷ [];
    services = record { number = 1; at = at 8 30253 } ∷ record { number = 2; at = at 9 30252 } ∷ [];
    left_out =
        timer (bfd (codes "1") (codes "br1")) (codes "detect_mult")
        ∷ peering (interface (codes "2") (codes "br1"))
        ∷ provider (interface (codes "3") (codes "br1")) (codes "ethernet")
        ∷ peering (interface (codes "5") (codes "br2"))
        ∷ further (control (codes "cs2"))
        ∷ [];
  };
}

pub to_the_first : topology_of (codes "br1") topology ≡ Some said
unfolding topology_of lists_of ports_at ports_of range_of isd_as_at address_at object_if_there address_of read_socket_v4 read_ipv4 read_octet read_number read_port interface_of of_kind provider_of link_of local_of bfd_of relation_at links_at timer_in timers_of left_at sibling_of siblings_by siblings_at siblings_unless peer_at peers_at peers_unless service_of further_of services_of left_of_services digits
to_the_first = refl

pub to_no_other : topology_of (codes "br3") topology ≡ None
unfolding topology_of isd_as_at
to_no_other = refl

-- ---- single values

pub child : relation_of (codes "Child") ≡ Some (Kind Child)
child = refl

pub no_relation : relation_of (codes "children") ≡ None
no_relation = refl

pub with_bfd : bfd_of (object no_members) ≡ Some true
unfolding bfd_of
with_bfd = refl

pub without_bfd : bfd_of (object (one (codes "bfd") (object (one (codes "disable") (boolean true))))) ≡ Some false
unfolding bfd_of
without_bfd = refl

pub any_port : ports_of (codes "ALL") ≡ Some (Some (record { first = 1; last = 65535 }))
unfolding ports_of
any_port = refl

pub no_ports : ports_of (codes "-") ≡ Some None
unfolding ports_of
no_ports = refl

pub no_backward_range : ports_of (codes "32767-31000") ≡ None
unfolding ports_of range_of digits
no_backward_range = refl

-- fd00::1
pub version_6 : address_of (codes "[fd00::1]:7") ≡ Some (record { ip = V6 (0xfd ∷ 0 ∷ 0 ∷ 0 ∷ 0 ∷ 0 ∷ 0 ∷ 0 ∷ 0 ∷ 0 ∷ 0 ∷ 0 ∷ 0 ∷ 0 ∷ 0 ∷ 1 ∷ []); port = 7 })
unfolding address_of read_socket_v4 read_ipv4 read_octet read_number read_socket_v6 read_ipv6 read_segments read_segment read_scope_id read_port
version_6 = refl

pub no_scope : address_of (codes "[fd00::1%2]:7") ≡ None
unfolding address_of read_socket_v4 read_ipv4 read_octet read_number read_socket_v6 read_ipv6 read_segments read_segment read_scope_id read_port
no_scope = refl

pub no_port_0 : address_of (codes "10.1.0.1:0") ≡ None
unfolding address_of read_socket_v4 read_ipv4 read_octet read_number read_port read_socket_v6
no_port_0 = refl

-- as older files have it
pub at_public : local_of (object (one (codes "public") (string (codes "10.1.0.1:40000")))) ≡ Some (at 1 40000)
unfolding local_of public_of address_at address_of read_socket_v4 read_ipv4 read_octet read_number read_port
at_public = refl

pub at_local : local_of (object (member (codes "local") (string (codes "10.1.0.1:40000")) (one (codes "public") (string (codes "10.1.0.2:40000"))))) ≡ Some (at 1 40000)
unfolding local_of address_at address_of read_socket_v4 read_ipv4 read_octet read_number read_port
at_local = refl

pub not_at_bind : local_of (object (member (codes "bind") (string (codes "10.1.0.2")) (one (codes "public") (string (codes "10.1.0.1:40000"))))) ≡ None
unfolding local_of public_of
not_at_bind = refl
