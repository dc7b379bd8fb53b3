use Rattle.cli_io.proofs.LinesLemmas.{line_read}
use Rattle.cli_io.proofs.lines.next_line.Goals as goal

pub returns-in-Ok-clause-lines : goal.returns-in-Ok-clause-lines
returns-in-Ok-clause-lines g c = line_read (g.R.Read.remaining c.args.reader.now) (g.R.Read.remaining c.read_line.new.reader) c.read_line.new.line.items c.in-Ok.more c.in-Ok.ensures.end c.in-Ok.ensures.line
