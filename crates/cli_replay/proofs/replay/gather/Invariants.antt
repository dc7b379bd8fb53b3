use Rattle.std.proofs.Common.{◌≡◌, ◌+◌, List, length}
use Rattle.router_rules.specs.Datagram.{Datagram}
use Rattle.cli_replay.specs.Gathered.{AreGathered}
use Rattle.cli_io.specs.Lines.{lines_in}
use Rattle.cli_replay.proofs.ReplayLemmas.{Gathers}
use Rattle.cli_replay.proofs.replay.gather.Given as goal

abbrev pub invariant-loop-number : goal.invariant-loop-number
invariant-loop-number g l =
    (ds : List Datagram) × AreGathered l.fn.config ds l.lists.items × (l.number ≡ length ds + 1)
    × Gathers l.fn.config (lines_in (g.R.Read.remaining l.initial.reader)) (lines_in (g.R.Read.remaining l.reader)) ds
