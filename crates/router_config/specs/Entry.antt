-- The value at a key of a table: it is tested for its type, then its form, then its range.
use Rattle.std.specs.Prelude.{ℕ, ℤ, pos, negsuc, ◌==◌, ◌&&◌, nat_le, if◌then◌else◌, List, Option, Some, None, Result, Ok, Err, codes}
use Rattle.std.specs.Str.{bytes_eq}
use Rattle.toml.specs.Data.{Data, Members, as_integer, as_str, get_member}
use Rattle.process_packet.specs.declared.neighbours.Bands.{Bands}
use Rattle.process_packet.specs.declared.neighbours.Bands.TheVariants.{One, Two}
use Rattle.process_packet.specs.declared.underlay.Underlay.{Underlay}
use Rattle.segment_switch.specs.declared.kind.LinkKind.{LinkKind}
use Rattle.segment_switch.specs.declared.kind.LinkKind.TheVariants.{Core, Parent, Child}
use Rattle.text_values.specs.Address.{underlay_of}
use Rattle.router_config.specs.Fault.{or_fault, ◌>>=◌}
use Rattle.router_config.specs.IsdAs.{isd_as_of}
use Rattle.router_config.specs.declared.entry.Version.{Version}
use Rattle.router_config.specs.declared.entry.Version.TheVariants.{First, Second}
use Rattle.router_config.specs.declared.fault.ConfigFault.{ConfigFault}
use Rattle.router_config.specs.declared.fault.ConfigFault.TheVariants.{Missing, WrongType, IsdAs, Address, Limit}

-- the value of a type at a key
abbrev pub value_at : {A : Type 0} → (Data → Option A) → List ℕ → Members → Result A ConfigFault
value_at read key table = or_fault Missing (get_member key table) >>= (λ value. or_fault WrongType (read value))

-- a number from the least to the most
abbrev pub in_range : ℕ → ℕ → ℤ → Result ℕ ConfigFault
in_range least most (negsuc n) = Err Limit
in_range least most (pos n) = if nat_le least n && nat_le n most then Ok n else Err Limit

unfoldable pub number_at : ℕ → ℕ → List ℕ → Members → Result ℕ ConfigFault
number_at least most key table = value_at as_integer key table >>= in_range least most

unfoldable pub address_at : List ℕ → Members → Result Underlay ConfigFault
address_at key table = value_at as_str key table >>= (λ text. or_fault Address (underlay_of text))

-- an ISD number and an AS number
unfoldable pub isd_as_at : List ℕ → Members → Result (ℕ × ℕ) ConfigFault
isd_as_at key table = value_at as_str key table >>= (λ text. or_fault IsdAs (isd_as_of text))

abbrev pub kind_of : List ℕ → Option LinkKind
kind_of word = if bytes_eq word (codes "core") then Some Core
    else if bytes_eq word (codes "parent") then Some Parent
    else if bytes_eq word (codes "child") then Some Child
    else None

unfoldable pub kind_at : Members → Result LinkKind ConfigFault
kind_at table = value_at as_str (codes "kind") table >>= (λ word. or_fault WrongType (kind_of word))

-- the version of the format, 1 or 2
unfoldable pub version_at : Members → Result Version ConfigFault
version_at table = number_at 1 2 (codes "version") table >>= (λ n. Ok (if n == 1 then First else Second))

-- how many bands there are: one in the first version, which has no such key
unfoldable pub bands_at : Version → List ℕ → Members → Result Bands ConfigFault
bands_at First key table = Ok One
bands_at Second key table = number_at 1 2 key table >>= (λ n. Ok (if n == 1 then One else Two))
