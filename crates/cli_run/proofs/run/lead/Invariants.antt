use Rattle.cli_io.specs.Lines.{lines_in}
use Rattle.cli_run.proofs.RunLemmas.{Goes}
use Rattle.cli_run.proofs.run.lead.Given as goal

abbrev pub invariant-loop : goal.invariant-loop
invariant-loop g l =
    Goes g.C.Control.closes (lines_in (g.R.Read.remaining l.initial.reader)) (lines_in (g.R.Read.remaining l.reader)) l.initial.router l.router (g.W.Write.contents l.initial.writer) (g.W.Write.contents l.writer)
