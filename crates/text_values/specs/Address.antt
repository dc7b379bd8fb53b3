-- Addresses of the underlay as text, as in `10.0.0.1:30000` or `[fd00:0:0:0:0:0:0:77]:30041`.
use Rattle.std.specs.Prelude.{ℕ, ◌/◌, ◌%◌, List, [], ◌∷◌, Option, Some, None}
use Rattle.process_packet.specs.declared.underlay.Ip.TheVariants.{V4, V6}
use Rattle.process_packet.specs.declared.underlay.Underlay.{Underlay}
use Rattle.text_values.specs.Pieces.{strip_prefix, split_once, group_of, number_up_to, unless_zero, ◌>>=◌}

-- the four bytes of decimals joined by `.`
unfoldable pub octets_of : List ℕ → Option (List ℕ)
octets_of text = do
  first ← split_once 46 text
  second ← split_once 46 first.1
  third ← split_once 46 second.1
  a ← number_up_to 255 first.0
  b ← number_up_to 255 second.0
  c ← number_up_to 255 third.0
  d ← number_up_to 255 third.1
  Some (a ∷ b ∷ c ∷ d ∷ [])

-- the group of hex digits that ends at a `:`, and what follows
unfoldable pub group_and_rest : List ℕ → Option (ℕ × List ℕ)
group_and_rest text = do
  parts ← split_once 58 text
  group ← group_of parts.0
  Some (group, parts.1)

-- each group as two bytes
abbrev pub bytes_of : List ℕ → List ℕ
bytes_of [] = []
bytes_of (group ∷ groups) = group / 256 ∷ group % 256 ∷ bytes_of groups

-- the 16 bytes of eight groups joined by `:`
unfoldable pub groups_of : List ℕ → Option (List ℕ)
groups_of text = do
  a ← group_and_rest text
  b ← group_and_rest a.1
  c ← group_and_rest b.1
  d ← group_and_rest c.1
  e ← group_and_rest d.1
  f ← group_and_rest e.1
  g ← group_and_rest f.1
  h ← group_of g.1
  Some (bytes_of (a.0 ∷ b.0 ∷ c.0 ∷ d.0 ∷ e.0 ∷ f.0 ∷ g.0 ∷ h ∷ []))

-- a port: it isn't 0
abbrev pub port_of : List ℕ → Option ℕ
port_of text = number_up_to 65535 text >>= unless_zero

unfoldable pub underlay_4_of : List ℕ → Option Underlay
underlay_4_of text = do
  parts ← split_once 58 text
  ip ← octets_of parts.0
  port ← port_of parts.1
  Some (record { ip = V4 ip; port = port })

unfoldable pub underlay_6_of : List ℕ → Option Underlay
underlay_6_of text = do
  opened ← strip_prefix 91 text
  closed ← split_once 93 opened
  ip ← groups_of closed.0
  port ← strip_prefix 58 closed.1 >>= port_of
  Some (record { ip = V6 ip; port = port })

abbrev pub or_else : Option Underlay → Option Underlay → Option Underlay
or_else (Some u) other = Some u
or_else None other = other

-- four decimals joined by `.`, or eight groups of hex digits joined by `:` in brackets; then `:` and a port
abbrev pub underlay_of : List ℕ → Option Underlay
underlay_of text = or_else (underlay_4_of text) (underlay_6_of text)
