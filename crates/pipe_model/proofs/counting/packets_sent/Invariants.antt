use Rattle.std.proofs.Common.{◌≡◌, ◌≤◌, ◌*◌, ◌^◌, not, take}
use Rattle.order_laws.specs.Counts.{count, total}
use Rattle.pipe_model.proofs.counting.packets_sent.Given as goal

abbrev pub invariant-loop-link : goal.invariant-loop-link
invariant-loop-link l = record {
  count : l.packets ≡ total (count (λ o. not o.answer)) (take l.link l.sent);
  few : l.packets ≤ l.link * 2 ^ 64;
}
