use Rattle.cli_io.specs.Lines.{left_of}
use Rattle.cli_replay.proofs.ReplayLemmas.{Goes}
use Rattle.cli_replay.proofs.replay.run_steps.Given as goal

abbrev pub invariant-loop-number : goal.invariant-loop-number
invariant-loop-number g l =
    Goes l.fn.front.number l.initial.world (left_of l.fn.front.more l.initial.line.items (g.R.Read.remaining l.initial.reader))
    l.number l.world (left_of l.more l.line.items (g.R.Read.remaining l.reader)) (g.W.Write.contents l.initial.writer) (g.W.Write.contents l.writer)
