-- The lines by which a running router is told what to do.
use Rattle.std.specs.Prelude.{ℕ, if◌then◌else◌, List, Option, Some, None, codes}
use Rattle.std.specs.Str.{bytes_eq}
use Rattle.text_values.specs.Pieces.{split_once, number_up_to, ◌>>=◌}
use Rattle.cli_io.specs.Text.{as_text}
use Rattle.cli_run.specs.declared.command.Command.{Command}
use Rattle.cli_run.specs.declared.command.Command.TheVariants as command

-- what follows the word `close` and a blank
abbrev pub if_close : List ℕ × List ℕ → Option (List ℕ)
if_close words = if bytes_eq words.0 (codes "close") then Some words.1 else None

-- `close <link>`
unfoldable pub close_of : List ℕ → Option Command
close_of text = do
  words ← split_once 32 text
  rest ← if_close words
  link ← number_up_to 65535 rest
  Some (command.Close link)

unfoldable pub order_of : List ℕ → Option Command
order_of text = if bytes_eq text (codes "end") then Some command.End else close_of text

-- what a line tells to do; none where it is no such line
unfoldable pub command_of : List ℕ → Option Command
command_of line = as_text line >>= order_of
