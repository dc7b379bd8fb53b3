-- What a router knows of its AS: its configuration as lists, and look-ups there.
use Rattle.std.specs.Prelude.{ℕ, Bool, false, ◌&&◌, ◌||◌, ◌==◌, List, find, Option, Some, None, is_some, option_map, if◌then◌else◌}
use Rattle.std.specs.List.{list_any}
use Rattle.std.specs.Option.{option_and_then}
use Rattle.field_rows.specs.Place.{number_at}
use Rattle.scion_header.specs.declared.domain.Domain.{Domain}
use Rattle.scion_packet.specs.Header.{HostAddress, host_code}
use Rattle.segment_switch.specs.declared.kind.LinkKind.{LinkKind}
use Rattle.process_packet.specs.declared.config.Config.{Config}
use Rattle.process_packet.specs.declared.neighbours.Link.{Link}
use Rattle.process_packet.specs.declared.neighbours.Sibling.{Sibling}
use Rattle.process_packet.specs.declared.neighbours.Service.{Service}
use Rattle.process_packet.specs.declared.port_range.PortRange.{PortRange}
use Rattle.process_packet.specs.declared.underlay.Ip.TheVariants.{V4, V6}
use Rattle.process_packet.specs.declared.underlay.Underlay.{Underlay}
use Rattle.process_packet.specs.Neighbours.{is_neighbored, link_neighbor, service_at, sibling_kind}
use Rattle.process_packet.specs.Underlay.{same_ip, same_underlay}

-- ---- what a decision looks at

pub record Network : Type 0 where
  pub isd : ℕ
  pub autonomous_system : ℕ
  pub key : List ℕ
  pub host_port : ℕ
  pub dispatched_ports : Option PortRange
  pub links : List Link
  pub siblings : List Sibling
  pub services : List Service

abbrev pub network : Config → Network
network c = record {
  isd = c.isd;
  autonomous_system = c.autonomous_system;
  key = c.key;
  host_port = c.host_port;
  dispatched_ports = c.dispatched_ports;
  links = c.links.items;
  siblings = c.siblings.items;
  services = c.services.items;
}

-- ---- look-ups

abbrev pub own_link : Network → ℕ → Option Link
own_link n id = find (λ l. l.id == id) n.links

abbrev pub sibling : Network → ℕ → Option Sibling
sibling n id = find (λ s. s.id == id) n.siblings

abbrev pub service : Network → ℕ → Option Service
service n number = find (λ s. s.number == number) n.services

abbrev pub has_link : Network → ℕ → Bool
has_link n id = id == 0 || is_some (own_link n id)

abbrev pub is_local : Network → HostAddress → Bool
is_local n a = a.isd == n.isd && a.autonomous_system == n.autonomous_system

-- what the AS at the other end of an interface of this AS is: of an own link, else of a sibling's interface
abbrev pub kind_or : Option Link → Option Sibling → Option LinkKind
kind_or None s = option_map sibling_kind s
kind_or (Some l) s = Some l.kind

abbrev pub interface_kind : Network → ℕ → Option LinkKind
interface_kind n id = kind_or (own_link n id) (sibling n id)

-- ---- one-hop paths

-- the AS at the other end of a link over which they are carried
abbrev pub neighbor : Network → ℕ → Option Domain
neighbor n id = option_and_then link_neighbor (own_link n id)

abbrev pub is_neighbor : Option Domain → HostAddress → Bool
is_neighbor None a = false
is_neighbor (Some d) a = a.isd == d.isd && a.autonomous_system == d.autonomous_system

-- They come by the links over which they are carried, and from inside where there is one.
abbrev pub takes_one_hop : Network → ℕ → Bool
takes_one_hop n link = if link == 0 then list_any is_neighbored n.links else is_some (neighbor n link)

-- ---- hosts and services of this AS

-- where one is reached: a host of kind 0 with 4 or 16 bytes is an IP address, and listens at this port; one of kind 1 with 4 bytes
-- is a service, at its own port; no other kind is known
abbrev pub reached_at : Network → ℕ → HostAddress → Option Underlay
reached_at n port a =
    if a.kind == 0 && host_code a == 0 then Some (record { ip = V4 a.host; port = port })
    else if a.kind == 0 && host_code a == 3 then Some (record { ip = V6 a.host; port = port })
    else if a.kind == 1 && host_code a == 0 then option_map service_at (service n (number_at a.host 0 2))
    else None

-- ---- the underlay

-- the router at the other end of the link
abbrev pub is_remote : Option Link → Underlay → Bool
is_remote None source = false
is_remote (Some l) source = same_underlay source l.remote

-- the router of this AS that owns an interface; its port isn't compared
abbrev pub is_owner : Option Sibling → Underlay → Bool
is_owner None source = false
is_owner (Some s) source = same_ip source.ip s.at.ip
