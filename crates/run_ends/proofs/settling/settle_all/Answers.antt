use Rattle.std.proofs.Common.{◌≡◌, length, ap, arith}
use Rattle.run_ends.proofs.TakenBackLemmas.{all_ready, done_as, done_next, done_none, ready_as, ready_long, ready_next, settled_rows}
use Rattle.run_ends.proofs.settling.settle_all.Goals as goal

pub loop-k-init : goal.loop-k-init
loop-k-init g c =
    let ps = c.of-pipes.ensures in
    let ts = c.of-takers.ensures in
    record {
      left = let l = ap length ps in omega arith;
      ready = ready_as c.args.pipes.items _ c.args.takers.items _ ps ts (all_ready c.requires.0 c.requires.1 c.args.pipes.items c.args.takers.items c.requires.2 c.requires.3);
      done = λ done. done_as c.of-pipes.result _ c.of-takers.result _ ps ts done;
    }

pub next-pipe-requires : goal.next-pipe-requires
next-pipe-requires g c = let t = c.loop-k-test.true in let n = c.len-count.ensures in let o = c.args.pipes.ok in let l = c.loop-k.invariant.left in omega arith

pub next-taker-requires : goal.next-taker-requires
next-taker-requires g c =
    let at = c.loop-k in
    let long = ready_long at.pipes at.takers at.invariant.ready in
    let t = c.loop-k-test.true in let n = c.len-count.ensures in let o = c.args.pipes.ok in let l = at.invariant.left in omega arith

pub settle-requires : goal.settle-requires
settle-requires g c = let at = c.loop-k in (ready_next at.pipes c.next-pipe.new.self at.takers c.next-taker.new.self c.next-pipe.result c.next-taker.result c.next-pipe.ensures c.next-taker.ensures at.invariant.ready).0

pub loop-k-preserved : goal.loop-k-preserved
loop-k-preserved g c =
    let at = c.loop-k in
    record {
      left = let e = ap length c.next-pipe.ensures in let l = at.invariant.left in omega arith;
      ready = (ready_next at.pipes c.next-pipe.new.self at.takers c.next-taker.new.self c.next-pipe.result c.next-taker.result c.next-pipe.ensures c.next-taker.ensures at.invariant.ready).1;
      done = λ rest. at.invariant.done (done_next at.pipes c.next-pipe.new.self at.takers c.next-taker.new.self c.next-pipe.result c.next-taker.result c.next-pipe.ensures c.next-taker.ensures c.settle.ensures rest);
    }

pub returns : goal.returns
returns g c = λ rows ss back.
    let at = c.loop-k in
    let none : length at.pipes ≡ 0 = let a = at.auto.k-end in let f = c.loop-k-test.false in let n = c.len-count.ensures in let o = c.args.pipes.ok in let l = at.invariant.left in omega arith in
    settled_rows rows ss c.args.pipes.items c.args.takers.items back (at.invariant.done (done_none at.pipes at.takers at.invariant.ready none))
