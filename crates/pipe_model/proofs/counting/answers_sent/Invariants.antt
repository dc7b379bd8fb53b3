use Rattle.std.proofs.Common.{◌≡◌, ◌≤◌, ◌*◌, ◌^◌, take}
use Rattle.order_laws.specs.Counts.{count, total}
use Rattle.pipe_model.proofs.counting.answers_sent.Given as goal

abbrev pub invariant-loop-link : goal.invariant-loop-link
invariant-loop-link l = record {
  count : l.answers ≡ total (count (λ o. o.answer)) (take l.link l.sent);
  few : l.answers ≤ l.link * 2 ^ 64;
}
