use Rattle.std.proofs.Common.{◌≡◌, ◌+◌, length}
use Rattle.run_pipes.specs.declared.pipes.Pipes.{Pipes}
use Rattle.run_report.proofs.parting.part_each.Given as goal

abbrev pub invariant-loop-k : goal.invariant-loop-k
invariant-loop-k g l = record {
  count : l.k + length l.workers ≡ length l.fn.workers.items;
  fits : g.W.Apart.fits l.workers l.pipes l.left;
  gave : (k : Pipes g.row.N.Denot) (p : g.row.P.Denot) → g.W.Apart.gave l.workers l.pipes l.left k p → g.W.Apart.gave l.fn.workers.items l.initial.pipes l.initial.left k p;
}
