-- The parts of a configuration as they are read: their values, and what holds of each.
use Rattle.std.specs.Prelude.{◌<◌, ◌≤◌, ◌^◌, IsTrue, length, map}
use Rattle.std.specs.List.{list_all}
use Rattle.process_packet.specs.Neighbours.{are_distinct, has_port, is_link, is_service, is_sibling, service_number}
use Rattle.router_config.specs.Config.{AroundValues, InternalValues, LocalValues, SizeValues}
use Rattle.router_config.specs.Neighbours.{link_values, taken}
use Rattle.router_config.specs.declared.config.Local.{Local}
use Rattle.router_config.specs.declared.config.Internal.{Internal}
use Rattle.router_config.specs.declared.config.Sizes.{Sizes}
use Rattle.router_config.specs.declared.config.Around.{Around}

abbrev pub local_values : Local → LocalValues
local_values p = record { isd_as = (p.isd, p.autonomous_system); key = p.key }

pub record IsLocal (p : Local) : Type 0 where
  pub isd_is_there : 1 ≤ p.isd
  pub autonomous_system_is_there : 1 ≤ p.autonomous_system
  pub autonomous_system_fits : p.autonomous_system < 2 ^ 48

abbrev pub internal_values : Internal → InternalValues
internal_values p = record { router = p.router; bands = p.bands; host_port = p.host_port }

pub record IsInternal (p : Internal) : Type 0 where
  pub port : IsTrue (has_port p.router)
  pub host_port_is_there : 1 ≤ p.host_port

abbrev pub size_values : Sizes → SizeValues
size_values p = record { processors = p.processors; capacity = p.capacity; seed = p.seed; buffers = p.buffers }

pub record AreSizes (p : Sizes) : Type 0 where
  pub some_processors : 1 ≤ p.processors
  pub few_processors : p.processors ≤ 16
  pub some_capacity : 1 ≤ p.capacity
  pub small_capacity : p.capacity ≤ 65536
  pub some_buffers : 2 ≤ p.buffers
  pub few_buffers : p.buffers ≤ 65536

abbrev pub around_values : Around → AroundValues
around_values p = record { links = map link_values p.links.items; siblings = p.siblings.items; services = p.services.items }

pub record IsAround (p : Around) : Type 0 where
  pub some_links : 1 ≤ length p.links.items
  pub few_links : length p.links.items ≤ 32
  pub few_siblings : length p.siblings.items ≤ 256
  pub few_services : length p.services.items ≤ 64
  pub links_are_whole : IsTrue (list_all is_link p.links.items)
  pub siblings_are_whole : IsTrue (list_all is_sibling p.siblings.items)
  pub services_are_whole : IsTrue (list_all is_service p.services.items)
  pub interfaces_are_distinct : IsTrue (are_distinct (taken p.links.items p.siblings.items))
  pub services_are_distinct : IsTrue (are_distinct (map service_number p.services.items))
