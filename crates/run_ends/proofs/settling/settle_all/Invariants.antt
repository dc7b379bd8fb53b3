use Rattle.std.proofs.Common.{◌≡◌, ◌+◌, length}
use Rattle.run_ends.specs.Finished.{AreDone, AreReady}
use Rattle.run_ends.proofs.settling.settle_all.Given as goal

abbrev pub invariant-loop-k : goal.invariant-loop-k
invariant-loop-k g l = record {
  left : l.k + length l.pipes ≡ length l.fn.pipes.items;
  ready : AreReady l.pipes l.takers;
  done : AreDone l.pipes l.takers → AreDone l.fn.pipes.items l.fn.takers.items;
}
