-- The line of a replay that tells of a datagram: `arrive <link> <from or -> <now> <hex>`.
use Rattle.std.specs.Prelude.{ℕ, if◌then◌else◌, List, Option, Some, None, codes}
use Rattle.std.specs.Str.{bytes_eq}
use Rattle.process_packet.specs.declared.config.Config.{Config}
use Rattle.process_packet.specs.declared.underlay.Underlay.{Underlay}
use Rattle.text_values.specs.Address.{underlay_of}
use Rattle.text_values.specs.Pieces.{split_once, number_up_to, ◌>>=◌}
use Rattle.router_rules.specs.Datagram.{Datagram}
use Rattle.cli_io.specs.ArrivalContext.{usual_source}
use Rattle.cli_io.specs.HexLine.{bytes_of}
use Rattle.cli_replay.specs.Names.{link_of}
use Rattle.cli_io.specs.Text.{as_text}
use Rattle.cli_io.specs.declared.arrival_context.ArrivalContext.{ArrivalContext}
use Rattle.cli_replay.specs.declared.arrive_line.Incoming.{Incoming}

-- an address, or `-` for the usual one
abbrev pub source_of : Config → ℕ → List ℕ → Option Underlay
source_of c link text = if bytes_eq text (codes "-") then usual_source c link else underlay_of text

abbrev pub if_arrive : List ℕ × List ℕ → Option (List ℕ)
if_arrive words = if bytes_eq words.0 (codes "arrive") then Some words.1 else None

-- how it arrives, and the hex digits after it
unfoldable pub head_of : Config → List ℕ → Option (ArrivalContext × List ℕ)
head_of c text = do
  rest ← split_once 32 text >>= if_arrive
  link ← split_once 32 rest
  from ← split_once 32 link.1
  moment ← split_once 32 from.1
  id ← link_of c link.0
  source ← source_of c id from.0
  now ← number_up_to 1099511627775 moment.0
  Some (record { link = id; source = source; moment = now }, moment.1)

abbrev pub came : ArrivalContext → List ℕ → Datagram
came a bytes = record { interface = a.link; source = a.source; moment = a.moment; bytes = bytes }

unfoldable pub arrival_of : Config → List ℕ → Option Datagram
arrival_of c text = do
  head ← head_of c text
  bytes ← bytes_of head.1
  Some (came head.0 bytes)

-- the datagram that a line tells of; none where it is no such line
unfoldable pub datagram_of_line : Config → List ℕ → Option Datagram
datagram_of_line c line = as_text line >>= arrival_of c

abbrev pub incoming_datagram : Incoming → Datagram
incoming_datagram x = came x.arrival_context x.bytes.items
