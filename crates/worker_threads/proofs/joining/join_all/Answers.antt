use Rattle.std.proofs.Common.{length, ap, arith}
use Rattle.worker_threads.proofs.BackLemmas.{back_first, back_last, back_next, one_popped, turned_long}
use Rattle.worker_threads.proofs.joining.join_all.Goals as goal

pub loop-k-init : goal.loop-k-init
loop-k-init g c = record {
  left = let l = turned_long c.started.inside.handles.items _ c.reverse.ensures.items in let n = c.len-count.ensures in let o = c.started.inside.handles.ok in omega arith;
  room = let l = turned_long c.started.inside.handles.items _ c.reverse.ensures.items in let none = ap length c.started.invariant.0 in let r = c.started.invariant.1 in omega arith;
  back = back_first (λ a b. g.W.Stage.same a b × g.W.Stage.has_ended b) (λ h. h.promise.0.value) c.started.inside.handles.items _ _ _ c.reverse.ensures.items c.started.view_is c.started.invariant.0;
}

pub push_reserved-requires : goal.push_reserved-requires
push_reserved-requires g c = let r = c.loop-k.invariant.room in let l = one_popped _ _ _ c.in-Some.ensures.items in let o = c.loop-k.back.ok in omega arith

pub loop-k-preserved : goal.loop-k-preserved
loop-k-preserved g c =
    let at = c.loop-k in
    let l = one_popped _ _ _ c.in-Some.ensures.items in
    let more = one_popped c.push_reserved.new.self.items at.back.items c.join_worker.result c.push_reserved.ensures.items in
    record {
      left = let was = at.invariant.left in omega arith;
      room = let was = at.invariant.room in let cap = c.push_reserved.ensures.capacity in omega arith;
      back = back_next (λ a b. g.W.Stage.same a b × g.W.Stage.has_ended b) (λ h. h.promise.0.value) at.handles.items c.pop.new.self.items at.back.items c.push_reserved.new.self.items c.in-Some.handle c.join_worker.result c.args.started at.invariant.back c.in-Some.ensures.items c.join_worker.ensures c.push_reserved.ensures.items;
    }

pub destroy_empty-requires : goal.destroy_empty-requires
destroy_empty-requires g c = let f = c.loop-k-test.false in let l = c.loop-k.invariant.left in let o = c.loop-k.handles.ok in omega arith

pub returns : goal.returns
returns g c =
    let at = c.loop-k in
    back_last (λ a b. g.W.Stage.same a b × g.W.Stage.has_ended b) (λ h. h.promise.0.value) at.handles.items at.back.items c.args.started (let f = c.loop-k-test.false in let l = at.invariant.left in omega arith) at.invariant.back
