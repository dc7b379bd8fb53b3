use Rattle.std.proofs.Common.{◌≡◌, ◌+◌, ◌++◌, ◌≤◌, List, length, map, reverse, vec_capacity}
use Rattle.worker_parts.specs.Back.{AreBack}
use Rattle.worker_threads.proofs.joining.join_all.Given as goal

abbrev pub invariant-loop-k : goal.invariant-loop-k
invariant-loop-k g l = record {
  left : l.k + length l.handles.items ≡ l.count;
  room : length l.back.items + length l.handles.items ≤ vec_capacity l.back;
  back : (ys : List g.row.W.Denot) → AreBack (λ a b. g.W.Stage.same a b × g.W.Stage.has_ended b) (map (λ h. h.promise.0.value) (reverse l.handles.items)) ys
      → AreBack (λ a b. g.W.Stage.same a b × g.W.Stage.has_ended b) l.fn.started (l.back.items ++ ys);
}
