-- Which keys are read, and where.
use Rattle.std.specs.Prelude.{ℕ, Bool, ◌&&◌, ◌||◌, List, Option, Some, None, codes, if◌then◌else◌}
use Rattle.std.specs.Str.{bytes_eq}
use Rattle.config_warnings.specs.declared.keys.Place.{Place}
use Rattle.config_warnings.specs.declared.keys.Place.TheVariants as place
use Rattle.config_warnings.specs.declared.keys.Reason.{Reason}
use Rattle.config_warnings.specs.declared.keys.Reason.TheVariants as reason

abbrev pub is_of_top : List ℕ → Bool
is_of_top key = bytes_eq key (codes "version") || bytes_eq key (codes "isd_as") || bytes_eq key (codes "key") || bytes_eq key (codes "internal")
    || bytes_eq key (codes "host_port") || bytes_eq key (codes "processors") || bytes_eq key (codes "capacity") || bytes_eq key (codes "seed")
    || bytes_eq key (codes "buffers") || bytes_eq key (codes "link") || bytes_eq key (codes "sibling") || bytes_eq key (codes "service")
    || bytes_eq key (codes "internal_bands") || bytes_eq key (codes "dispatched_ports")

abbrev pub is_of_link : List ℕ → Bool
is_of_link key =
    bytes_eq key (codes "id") || bytes_eq key (codes "kind") || bytes_eq key (codes "local") || bytes_eq key (codes "remote") || bytes_eq key (codes "bands")
    || bytes_eq key (codes "neighbor") || bytes_eq key (codes "bfd")

abbrev pub is_of_sibling : List ℕ → Bool
is_of_sibling key = bytes_eq key (codes "id") || bytes_eq key (codes "kind") || bytes_eq key (codes "at")

abbrev pub is_of_service : List ℕ → Bool
is_of_service key = bytes_eq key (codes "number") || bytes_eq key (codes "at")

abbrev pub is_read_at : Place → List ℕ → Bool
is_read_at place.Top key = is_of_top key
is_read_at (place.Link n) key = is_of_link key
is_read_at (place.Sibling n) key = is_of_sibling key
is_read_at (place.Service n) key = is_of_service key

-- the keys that the first version of the format doesn't have
abbrev pub is_version_2 : List ℕ → Bool
is_version_2 key = bytes_eq key (codes "internal_bands") || bytes_eq key (codes "bands")

-- why a key isn't read in the table at a place, in the first version or the second, if it isn't
abbrev pub reason_at : Bool → Place → List ℕ → Option Reason
reason_at first place key = if is_read_at place key then (if first && is_version_2 key then Some reason.TooEarly else None)
    else if is_of_top key then Some reason.TooLow
    else Some reason.Unknown
