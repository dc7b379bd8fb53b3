-- The ports at which applications on end hosts listen themselves.
use Rattle.std.specs.Prelude.{ℤ, Option, Some, None, Result, Ok, Err, codes}
use Rattle.toml.specs.Data.{Data, Items, no_items, item, Members, as_array, as_integer}
use Rattle.process_packet.specs.declared.port_range.PortRange.{PortRange}
use Rattle.router_config.specs.Entry.{in_range, value_at}
use Rattle.router_config.specs.Fault.{on_ok, or_fault, or_when_missing, ◌>>=◌}
use Rattle.router_config.specs.declared.fault.ConfigFault.{ConfigFault}
use Rattle.router_config.specs.declared.fault.ConfigFault.TheVariants.{WrongType}

-- from a port to one that isn't below it
abbrev pub range_of : ℤ → ℤ → Result PortRange ConfigFault
range_of from to = do
  first ← in_range 1 65535 from
  last ← in_range first 65535 to
  Ok (record { first = first; last = last })

abbrev pub ports_from : Data → Data → Result (Option PortRange) ConfigFault
ports_from first last = do
  from ← or_fault WrongType (as_integer first)
  to ← or_fault WrongType (as_integer last)
  range ← range_of from to
  Ok (Some range)

-- of a list of two members
abbrev pub ports_of : Items → Result (Option PortRange) ConfigFault
ports_of no_items = Err WrongType
ports_of (item first no_items) = Err WrongType
ports_of (item first (item last no_items)) = ports_from first last
ports_of (item first (item last (item other others))) = Err WrongType

abbrev pub ports_if_there : Option Items → Result (Option PortRange) ConfigFault
ports_if_there None = Ok None
ports_if_there (Some items) = ports_of items

-- there may be no such key
unfoldable pub dispatched_ports_at : Members → Result (Option PortRange) ConfigFault
dispatched_ports_at table = or_when_missing None (on_ok Some (value_at as_array (codes "dispatched_ports") table)) >>= ports_if_there
