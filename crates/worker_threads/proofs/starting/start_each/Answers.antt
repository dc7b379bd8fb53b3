use Rattle.std.proofs.Common.{◌≡◌, length, ap, ◌∙◌, arith}
use Rattle.worker_threads.specs.Teams.{Seated}
use Rattle.worker_threads.proofs.BackLemmas.{all_made, more_made, none_made, none_of, turned_long}
use Rattle.worker_threads.proofs.starting.start_each.Goals as goal

pub loop-k-init : goal.loop-k-init
loop-k-init g c =
    let team = c.team.inside in
    let is = ap (λ (t : Seated _). t.workers) c.team.view_is in
    let long = ap length is in
    let turned = turned_long team.workers.items _ c.reverse.ensures.items in
    let none = ap length c.team.invariant.0 in
    record {
      so_far = λ all. all;
      left = λ all. let n = c.len-count.ensures in let ok = team.workers.ok in omega arith;
      made = λ all. none_made (λ h. h.promise.0.value) team.room.items _ team.workers.items c.team.invariant.0 c.reverse.ensures.items ∙ is;
      few = omega arith;
      fits = let fits = c.team.invariant.1 in omega arith;
      room = let cap = c.reverse.ensures.capacity in let ok = team.workers.ok in omega arith;
    }

pub start_next-are_all-requires-clause-some : goal.start_next-are_all-requires-clause-some
start_next-are_all-requires-clause-some g c κs within = λ all. let t = c.loop-k-test.true in let l = c.loop-k.invariant.left all in omega arith

pub start_next-are_all-requires-clause-room : goal.start_next-are_all-requires-clause-room
start_next-are_all-requires-clause-room g c κs within = λ all.
    let at = c.loop-k.invariant in
    let t = c.loop-k-test.true in
    let l = at.left all in
    let few = at.few in
    let fits = at.fits in
    omega arith

pub loop-k-preserved : goal.loop-k-preserved
loop-k-preserved g c =
    let at = c.loop-k.invariant in
    let next = c.start_next-are_all.ensures in
    record {
      so_far = λ all. at.so_far (next.so_far all);
      left = λ all. let l = at.left (next.so_far all) in let one = next.one all in omega arith;
      made = λ all. more_made (λ h. h.promise.0.value) c.loop-k.handles.items c.start_next-are_all.new.handles.items c.loop-k.workers.items c.start_next-are_all.new.workers.items c.args.team.workers (next.same all) (at.made (next.so_far all));
      few = let was = at.few in let fewer = next.fewer in omega arith;
      fits = rw next.room.1 at.fits;
      room = rw next.room.0 at.room;
    }

pub invariant_of-started : goal.invariant_of-started
invariant_of-started g c =
    let at = c.loop-k.invariant in
    (c.clear.ensures.items, let few = at.few in let room = at.room in let same = c.clear.ensures.capacity in omega arith)

pub returns : goal.returns
returns g c =
    let at = c.loop-k in
    λ all.
    let none : length at.workers.items ≡ 0 = let f = c.loop-k-test.false in let l = at.invariant.left all in omega arith in
    (at.invariant.so_far all, all_made (λ h. h.promise.0.value) at.handles.items at.workers.items c.args.team.workers (at.invariant.made all) (none_of at.workers.items none))
