use Rattle.std.proofs.Common.{◌≡◌, ◌+◌, ◌++◌, ◌≤◌, length, map, reverse, true, vec_capacity}
use Rattle.worker_threads.proofs.starting.start_each.Given as goal

abbrev pub invariant-loop-k : goal.invariant-loop-k
invariant-loop-k g l = record {
  so_far : l.are_all ≡ true → l.fn.so_far ≡ true;
  left : l.are_all ≡ true → l.k + length l.workers.items ≡ l.count;
  made : l.are_all ≡ true → map (λ h. h.promise.0.value) l.handles.items ++ reverse l.workers.items ≡ l.fn.team.workers;
  few : length l.handles.items + length l.workers.items ≤ length l.fn.team.workers;
  fits : length l.fn.team.workers ≤ vec_capacity l.handles;
  room : length l.fn.team.workers ≤ vec_capacity l.workers;
}
