-- What a topology says to one border router.
use Rattle.std.specs.Prelude.{ℕ, List, ◌++◌, Option, Some, None, codes, map}
use Rattle.serde_json.specs.Data.{Data, Members}
use Rattle.serde_json.specs.Find.{as_str, get, get_member}
use Rattle.process_packet.specs.declared.neighbours.Service.{Service}
use Rattle.process_packet.specs.declared.neighbours.Sibling.{Sibling}
use Rattle.process_packet.specs.declared.port_range.PortRange.{PortRange}
use Rattle.process_packet.specs.declared.underlay.Underlay.{Underlay}
use Rattle.text_values.specs.Pieces.{◌>>=◌}
use Rattle.topology.specs.Entry.{address_at, isd_as_at, object_at}
use Rattle.topology.specs.Interface.{LinkValues, link_values}
use Rattle.topology.specs.LeftOut.{Left, left}
use Rattle.topology.specs.PortRange.{ports_of}
use Rattle.topology.specs.Routers.{left_in, links_in, peers_beside, siblings_beside}
use Rattle.topology.specs.Servers.{left_of_services, services_of}
use Rattle.topology.specs.declared.topology.Lists.{Lists}
use Rattle.topology.specs.declared.topology.Topology.{Topology}

-- The lists of a topology.
pub record ListValues : Type 0 where
  pub links : List LinkValues
  pub siblings : List Sibling
  pub services : List Service
  pub left_out : List Left

-- What a topology says to one border router.
pub record TopologyValues : Type 0 where
  pub isd_as : List ℕ
  pub internal : Underlay
  pub ports : Option PortRange
  pub lists : ListValues

abbrev pub list_values : Lists → ListValues
list_values t = record {
  links = map link_values t.interfaces.items;
  siblings = t.siblings.items;
  services = t.services.items;
  left_out = map left t.left_out.items;
}

abbrev pub topology_values : Topology → TopologyValues
topology_values t = record { isd_as = t.isd_as.now; internal = t.internal; ports = t.ports; lists = list_values t.lists }

abbrev pub ports_from : Option Data → Option (Option PortRange)
ports_from None = Some None
ports_from (Some d) = as_str d >>= ports_of

-- the ports at which applications listen themselves; none inside where there are none
unfoldable pub ports_at : Data → Option (Option PortRange)
ports_at d = ports_from (get (codes "dispatched_ports") d)

-- the lists, of the interfaces of the router that is named, and of all routers
unfoldable pub lists_of : List ℕ → Members → Members → Data → Option ListValues
lists_of router interfaces routers d = do
  links ← links_in router interfaces
  siblings ← siblings_beside router routers
  services ← services_of d
  Some (record {
    links = links;
    siblings = siblings;
    services = services;
    left_out = left_in router interfaces ++ peers_beside router routers ++ left_of_services d;
  })

-- what a topology says to the router of this name; none where it says nothing to it, or what it says can't be read
unfoldable pub topology_of : List ℕ → Data → Option TopologyValues
topology_of router d = do
  isd_as ← isd_as_at (codes "isd_as") d
  routers ← object_at (codes "border_routers") d
  own ← get_member router routers
  internal ← address_at (codes "internal_addr") own
  interfaces ← object_at (codes "interfaces") own
  ports ← ports_at d
  lists ← lists_of router interfaces routers d
  Some (record { isd_as = isd_as; internal = internal; ports = ports; lists = lists })
