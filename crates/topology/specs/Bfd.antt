-- Whether the neighbour's router runs BFD over an interface: it does unless it is disabled there.
use Rattle.std.specs.Prelude.{Bool, true, not, Option, Some, None, codes, option_map, if◌then◌else◌, is_some}
use Rattle.serde_json.specs.Data.{Data}
use Rattle.serde_json.specs.Find.{as_bool, as_object, get}

abbrev pub unless_disabled : Option Data → Option Bool
unless_disabled None = Some true
unless_disabled (Some d) = option_map not (as_bool d)

abbrev pub bfd_from : Option Data → Option Bool
bfd_from None = Some true
bfd_from (Some d) = if is_some (as_object d) then unless_disabled (get (codes "disable") d) else None

-- none where a value is of another type
unfoldable pub bfd_of : Data → Option Bool
bfd_of d = bfd_from (get (codes "bfd") d)
