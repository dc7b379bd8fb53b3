-- What a running router prints for the lines that it is told.
use Rattle.std.specs.Prelude.{ℕ, List, codes}
use Rattle.cli_io.specs.Counts.{count_text}
use Rattle.cli_run.specs.declared.closing.Closing.{Closing}
use Rattle.cli_run.specs.declared.closing.Closing.TheVariants as closing

abbrev pub closing_word : Closing → List ℕ
closing_word closing.Closed = codes "closed"
closing_word closing.Full = codes "full"
closing_word closing.Unknown = codes "unknown"
closing_word closing.Already = codes "already"

-- the word and the link
abbrev pub closing_text : Closing → ℕ → List ℕ
closing_text c link = count_text (closing_word c) link

abbrev pub no_command_text : List ℕ
no_command_text = codes "no command\n"

abbrev pub ready_text : List ℕ
ready_text = codes "ready\n"
