-- ISD-AS numbers as text, as in `1-ff00:0:110` or `1-64512`.
use Rattle.std.specs.Prelude.{ℕ, ◌+◌, ◌*◌, List, Option, Some, None}
use Rattle.text_values.specs.Pieces.{split_once, group_of, number_up_to, unless_zero, ◌>>=◌}

-- the number of three groups of 16 bits, joined by `:`
unfoldable pub groups_of : List ℕ → Option ℕ
groups_of text = do
  high ← split_once 58 text
  low ← split_once 58 high.1
  a ← group_of high.0
  b ← group_of low.0
  c ← group_of low.1
  Some ((a * 65536 + b) * 65536 + c)

abbrev pub or_else : Option ℕ → Option ℕ → Option ℕ
or_else (Some n) other = Some n
or_else None other = other

-- an AS number: a decimal of 32 bits, or three groups
unfoldable pub as_of : List ℕ → Option ℕ
as_of text = or_else (number_up_to 4294967295 text) (groups_of text)

-- an ISD number and an AS number, neither of them 0, joined by `-`
unfoldable pub isd_as_of : List ℕ → Option (ℕ × ℕ)
isd_as_of text = do
  parts ← split_once 45 text
  isd ← number_up_to 65535 parts.0 >>= unless_zero
  as_number ← as_of parts.1 >>= unless_zero
  Some (isd, as_number)
