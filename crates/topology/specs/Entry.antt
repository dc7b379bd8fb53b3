-- The value at a key of an object.
use Rattle.std.specs.Prelude.{ℕ, Bool, ◌==◌, ◌&&◌, ◌||◌, nat_le, List, Option, Some, None, is_some, option_map, if◌then◌else◌}
use Rattle.std.specs.List.{list_all}
use Rattle.serde_json.specs.Data.{Data, Members}
use Rattle.serde_json.specs.Find.{as_object, as_str, get}
use Rattle.process_packet.specs.declared.underlay.Underlay.{Underlay}
use Rattle.text_values.specs.Pieces.{◌>>=◌}
use Rattle.topology.specs.Address.{address_of}

abbrev pub text_at : List ℕ → Data → Option (List ℕ)
text_at key d = get key d >>= as_str

abbrev pub object_at : List ℕ → Data → Option Members
object_at key d = get key d >>= as_object

-- an object itself
abbrev pub if_object : Data → Option Data
if_object d = if is_some (as_object d) then Some d else None

abbrev pub object_in : Option Data → Option (Option Members)
object_in None = Some None
object_in (Some d) = option_map Some (as_object d)

-- there may be no such key; none outside where the value is no object
unfoldable pub object_if_there : List ℕ → Data → Option (Option Members)
object_if_there key d = object_in (get key d)

unfoldable pub address_at : List ℕ → Data → Option Underlay
address_at key d = text_at key d >>= address_of

-- a digit or `:`, `a` to `f`, `A` to `F`, or `-`
abbrev pub is_mark : ℕ → Bool
is_mark b = (nat_le 48 b && nat_le b 58) || ((nat_le 97 b && nat_le b 102) || ((nat_le 65 b && nat_le b 70) || b == 45))

-- a text that is made of what an ISD-AS is made of
abbrev pub if_isd_as : List ℕ → Option (List ℕ)
if_isd_as text = if list_all is_mark text then Some text else None

unfoldable pub isd_as_at : List ℕ → Data → Option (List ℕ)
isd_as_at key d = text_at key d >>= if_isd_as
