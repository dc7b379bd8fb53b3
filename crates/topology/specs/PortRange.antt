-- The ports at which applications on end hosts listen themselves.
use Rattle.std.specs.Prelude.{ℕ, Bool, List, ◌==◌, ◌||◌, nat_lt, map, length, Option, Some, None, codes, option_map, if◌then◌else◌}
use Rattle.std.specs.Char.{to_ascii_lowercase}
use Rattle.std.specs.Str.{bytes_eq}
use Rattle.process_packet.specs.declared.port_range.PortRange.{PortRange}
use Rattle.text_values.specs.Pieces.{split_once, number_up_to, ◌>>=◌}

-- from a port to one that isn't below it; port 0 is none
abbrev pub range_from : ℕ → ℕ → Option PortRange
range_from first last = if first == 0 || nat_lt last first then None else Some (record { first = first; last = last })

-- two decimals with a `-` between them
unfoldable pub range_of : List ℕ → Option PortRange
range_of text = do
  parts ← split_once 45 text
  first ← number_up_to 65535 parts.0
  last ← number_up_to 65535 parts.1
  range_from first last

-- in letters of either case
abbrev pub is_word : List ℕ → List ℕ → Bool
is_word word text = bytes_eq (map to_ascii_lowercase text) (map to_ascii_lowercase word)

-- the range that a text tells, where it tells one or that there is none
unfoldable pub ports_of : List ℕ → Option (Option PortRange)
ports_of text = if length text == 0 || bytes_eq text (codes "-") then Some None
    else if is_word (codes "all") text then Some (Some (record { first = 1; last = 65535 }))
    else option_map Some (range_of text)
