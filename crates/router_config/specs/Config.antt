-- What a configuration gives, and the first fault of one that gives nothing: its keys are read in this order, the
-- members of its lists one after the other, and a value is tested for its type, its form, 0 or doubled, and its range.
use Rattle.std.specs.Prelude.{ℕ, pos, List, Option, Some, None, Result, Ok, Err, codes, map}
use Rattle.hex.specs.Hex.{decode_sized}
use Rattle.toml.specs.Data.{Members, as_integer, as_str}
use Rattle.toml.specs.Parse.{parse_document}
use Rattle.process_packet.specs.declared.config.Config.{Config}
use Rattle.process_packet.specs.declared.neighbours.Bands.{Bands}
use Rattle.process_packet.specs.declared.neighbours.Sibling.{Sibling}
use Rattle.process_packet.specs.declared.neighbours.Service.{Service}
use Rattle.process_packet.specs.declared.port_range.PortRange.{PortRange}
use Rattle.process_packet.specs.declared.underlay.Underlay.{Underlay}
use Rattle.router_config.specs.Entry.{address_at, bands_at, in_range, isd_as_at, number_at, value_at, version_at}
use Rattle.router_config.specs.Fault.{or_fault, or_when_missing, ◌>>=◌}
use Rattle.router_config.specs.Neighbours.{LinkValues, link_values, links_at, services_at, siblings_at, told_id}
use Rattle.router_config.specs.Ports.{dispatched_ports_at}
use Rattle.router_config.specs.declared.entry.Version.{Version}
use Rattle.router_config.specs.declared.fault.ConfigFault.{ConfigFault}
use Rattle.router_config.specs.declared.fault.ConfigFault.TheVariants.{NotToml, Key}

-- ---- the local AS

pub record LocalValues : Type 0 where
  pub isd_as : ℕ × ℕ
  pub key : List ℕ

abbrev pub decoded : {E : Type 0} → Result (List ℕ) E → Option (List ℕ)
decoded (Ok bytes) = Some bytes
decoded (Err fault) = None

-- the 16 bytes of 32 hex digits
unfoldable pub key_at : Members → Result (List ℕ) ConfigFault
key_at table = value_at as_str (codes "key") table >>= (λ text. or_fault Key (decoded (decode_sized text 16)))

unfoldable pub local_at : Members → Result LocalValues ConfigFault
local_at table = do
  isd_as ← isd_as_at (codes "isd_as") table
  key ← key_at table
  Ok (record { isd_as = isd_as; key = key })

-- ---- the internal network

pub record InternalValues : Type 0 where
  pub router : Underlay
  pub bands : Bands
  pub host_port : ℕ

unfoldable pub internal_at : Version → Members → Result InternalValues ConfigFault
internal_at version table = do
  router ← address_at (codes "internal") table
  bands ← bands_at version (codes "internal_bands") table
  host_port ← number_at 1 65535 (codes "host_port") table
  Ok (record { router = router; bands = bands; host_port = host_port })

-- ---- sizes

pub record SizeValues : Type 0 where
  pub processors : ℕ
  pub capacity : ℕ
  pub seed : ℕ
  pub buffers : ℕ

-- 64 where there is no such key
unfoldable pub buffers_at : Members → Result ℕ ConfigFault
buffers_at table = or_when_missing (pos 64) (value_at as_integer (codes "buffers") table) >>= in_range 2 65536

unfoldable pub sizes_at : Members → Result SizeValues ConfigFault
sizes_at table = do
  processors ← number_at 1 16 (codes "processors") table
  capacity ← number_at 1 65536 (codes "capacity") table
  seed ← number_at 0 4294967295 (codes "seed") table
  buffers ← buffers_at table
  Ok (record { processors = processors; capacity = capacity; seed = seed; buffers = buffers })

-- ---- what is around

pub record AroundValues : Type 0 where
  pub links : List LinkValues
  pub siblings : List Sibling
  pub services : List Service

-- around this AS
unfoldable pub around_at : Version → ℕ × ℕ → Members → Result AroundValues ConfigFault
around_at version own table = do
  links ← links_at version own table
  siblings ← siblings_at (map told_id links) table
  services ← services_at table
  Ok (record { links = links; siblings = siblings; services = services })

-- ---- all of it

pub record Values : Type 0 where
  pub near : LocalValues
  pub internal : InternalValues
  pub sizes : SizeValues
  pub dispatched_ports : Option PortRange
  pub around : AroundValues

unfoldable pub values_at : Members → Result Values ConfigFault
values_at table = do
  version ← version_at table
  near ← local_at table
  internal ← internal_at version table
  sizes ← sizes_at table
  dispatched_ports ← dispatched_ports_at table
  around ← around_at version near.isd_as table
  Ok (record { near = near; internal = internal; sizes = sizes; dispatched_ports = dispatched_ports; around = around })

-- the values of a text
abbrev pub values_of : List ℕ → Result Values ConfigFault
values_of text = or_fault NotToml (parse_document text) >>= values_at

-- the values that a configuration has
abbrev pub values : Config → Values
values c = record {
  near = record { isd_as = (c.isd, c.autonomous_system); key = c.key };
  internal = record { router = c.internal; bands = c.internal_bands; host_port = c.host_port };
  sizes = record { processors = c.processors; capacity = c.capacity; seed = c.seed; buffers = c.buffers };
  dispatched_ports = c.dispatched_ports;
  around = record { links = map link_values c.links.items; siblings = c.siblings.items; services = c.services.items };
}
