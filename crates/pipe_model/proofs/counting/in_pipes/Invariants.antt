use Rattle.std.proofs.Common.{◌≡◌, ◌≤◌, ◌*◌, ◌^◌, take}
use Rattle.order_laws.specs.Counts.{count, total}
use Rattle.replay_laws.specs.Pipe.{held}
use Rattle.replay_laws.specs.Totals.{is_packet}
use Rattle.pipe_model.proofs.counting.in_pipes.Given as goal

abbrev pub invariant-loop-pipe : goal.invariant-loop-pipe
invariant-loop-pipe l = record {
  count : l.packets ≡ total (λ p. count is_packet (held p)) (take l.pipe-index l.pipes);
  few : l.packets ≤ l.pipe-index * 2 ^ 64;
}
