-- The test of a net that agrees: `Net` says what it finds.
use Rattle.std.specs.Prelude.{ℕ, Bool, true, false, not, ◌&&◌, ◌||◌, ◌==◌, List, map, Option, Some, None, is_some}
use Rattle.std.specs.List.{enumerate_from, list_all, list_any, slice_get}
use Rattle.std.specs.Option.{option_and_then}
use Rattle.std.specs.Str.{bytes_eq}
use Rattle.scion_header.specs.declared.domain.Domain.{Domain}
use Rattle.segment_switch.specs.declared.kind.LinkKind.{LinkKind}
use Rattle.segment_switch.specs.declared.kind.LinkKind.TheVariants.{Core, Parent, Child}
use Rattle.process_packet.specs.declared.config.Config.{Config}
use Rattle.process_packet.specs.declared.neighbours.Link.{Link}
use Rattle.process_packet.specs.declared.neighbours.Service.{Service}
use Rattle.process_packet.specs.declared.neighbours.Sibling.{Sibling}
use Rattle.process_packet.specs.declared.port_range.PortRange.{PortRange}
use Rattle.net_laws.specs.declared.net.End.{End}
use Rattle.net_laws.specs.declared.net.Wire.{Wire}
use Rattle.process_packet.specs.declared.underlay.Underlay.{Underlay}
use Rattle.net_laws.specs.Net.{Net, Router, router_of}
use Rattle.process_packet.specs.Network.{Network, own_link, sibling}
use Rattle.process_packet.specs.Underlay.{same_underlay}

abbrev pub same_kind : LinkKind → LinkKind → Bool
same_kind Core Core = true
same_kind Core Parent = false
same_kind Core Child = false
same_kind Parent Core = false
same_kind Parent Parent = true
same_kind Parent Child = false
same_kind Child Core = false
same_kind Child Parent = false
same_kind Child Child = true

abbrev pub are_opposite : LinkKind → LinkKind → Bool
are_opposite Core Core = true
are_opposite Core Parent = false
are_opposite Core Child = false
are_opposite Parent Core = false
are_opposite Parent Parent = false
are_opposite Parent Child = true
are_opposite Child Core = false
are_opposite Child Parent = true
are_opposite Child Child = false

-- ---- the routers of one AS

abbrev pub are_of_one_as : Network → Network → Bool
are_of_one_as m n = m.isd == n.isd && m.autonomous_system == n.autonomous_system

abbrev pub is_entry_of : Underlay → LinkKind → Option Sibling → Bool
is_entry_of at kind None = false
is_entry_of at kind (Some s) = same_underlay s.at at && same_kind s.kind kind

abbrev pub lists : Network → Underlay → Link → Bool
lists n at l = not (is_some (own_link n l.id)) && is_entry_of at l.kind (sibling n l.id)

abbrev pub same_service : Service → Service → Bool
same_service s t = s.number == t.number && same_underlay s.at t.at

abbrev pub has_service : List Service → Service → Bool
has_service services s = list_any (same_service s) services

-- one range of ports, or none in both
abbrev pub same_ports : Option PortRange → Option PortRange → Bool
same_ports None None = true
same_ports None (Some b) = false
same_ports (Some a) None = false
same_ports (Some a) (Some b) = a.first == b.first && a.last == b.last

abbrev pub lists_router : Router → Router → Bool
lists_router x y = not (same_underlay x.internal y.internal) && list_all (lists x.network y.internal) y.network.links

abbrev pub agree_within : Bool → Router → Router → Bool
agree_within same x y =
    bytes_eq x.network.key y.network.key && x.network.host_port == y.network.host_port
    && same_ports x.network.dispatched_ports y.network.dispatched_ports
    && list_all (has_service y.network.services) x.network.services
    && (same || lists_router x y)

abbrev pub agree_as : ℕ → ℕ → Router → Router → Bool
agree_as r q x y = not (are_of_one_as x.network y.network) || agree_within (r == q) x y

abbrev pub agrees_with : List Router → ℕ → Router → Bool
agrees_with routers r x = list_all (λ (p : ℕ × Router). agree_as r p.0 x p.1) (enumerate_from 0 routers)

abbrev pub routers_agree : List Router → Bool
routers_agree routers = list_all (λ (p : ℕ × Router). agrees_with routers p.0 p.1) (enumerate_from 0 routers)

-- ---- wires

abbrev pub same_end : End → End → Bool
same_end a b = a.router == b.router && a.link == b.link

abbrev pub link_at : List Router → End → Option Link
link_at routers e = option_and_then (λ (x : Router). own_link x.network e.link) (slice_get routers e.router)

abbrev pub are_joined : Link → Link → Bool
are_joined out into = same_underlay out.remote into.local && same_underlay into.remote out.local && are_opposite out.kind into.kind

-- the AS that a link names at its other end, if it names one, is that of the router there
abbrev pub is_named : Option Domain → Network → Bool
is_named None n = true
is_named (Some d) n = d.isd == n.isd && d.autonomous_system == n.autonomous_system

abbrev pub is_named_by : Link → Option Router → Bool
is_named_by l None = false
is_named_by l (Some x) = is_named l.neighbor x.network

abbrev pub names_end : List Router → Link → End → Bool
names_end routers l e = is_named_by l (slice_get routers e.router)

abbrev pub are_wired : List Router → Wire → Option Link → Option Link → Bool
are_wired routers w None into = false
are_wired routers w (Some out) None = false
are_wired routers w (Some out) (Some into) = are_joined out into && names_end routers out w.other && names_end routers into w.one

abbrev pub is_wire : List Router → Wire → Bool
is_wire routers w = are_wired routers w (link_at routers w.one) (link_at routers w.other) && not (same_end w.one w.other)

abbrev pub are_apart : Wire → Wire → Bool
are_apart v w =
    not (same_end v.one w.one) && not (same_end v.one w.other) && not (same_end v.other w.one) && not (same_end v.other w.other)

abbrev pub is_apart : List Wire → ℕ → Wire → Bool
is_apart wires j v = list_all (λ (p : ℕ × Wire). (j == p.0) || are_apart v p.1) (enumerate_from 0 wires)

abbrev pub all_apart : List Wire → Bool
all_apart wires = list_all (λ (p : ℕ × Wire). is_apart wires p.0 p.1) (enumerate_from 0 wires)

-- ---- the net

abbrev pub agrees : Net → Bool
agrees net = routers_agree net.routers && list_all (is_wire net.routers) net.wires && all_apart net.wires

-- ---- over configurations

abbrev pub config_agrees : List Config → ℕ → Router → Bool
config_agrees configs r x = list_all (λ (p : ℕ × Config). agree_as r p.0 x (router_of p.1)) (enumerate_from 0 configs)

abbrev pub configs_agree : List Config → Bool
configs_agree configs = list_all (λ (p : ℕ × Config). config_agrees configs p.0 (router_of p.1)) (enumerate_from 0 configs)

abbrev pub are_net : List Config → List Wire → Bool
are_net configs wires =
    configs_agree configs && list_all (is_wire (map router_of configs)) wires && all_apart wires
