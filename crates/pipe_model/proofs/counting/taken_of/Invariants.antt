use Rattle.std.proofs.Common.{◌≡◌, ◌≤◌, ◌*◌, ◌^◌, take}
use Rattle.order_laws.specs.Counts.{total}
use Rattle.pipe_model.proofs.counting.taken_of.Given as goal

abbrev pub invariant-loop-pipe : goal.invariant-loop-pipe
invariant-loop-pipe l = record {
  count : l.packets ≡ total (λ p. p.taken) (take l.pipe-index l.pipes);
  few : l.packets ≤ l.pipe-index * 2 ^ 64;
}
