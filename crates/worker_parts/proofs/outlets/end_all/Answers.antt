use Rattle.std.proofs.Common.{◌<◌, ◌+◌, ◌||◌, ◌&&◌, Bool, subst, eqb, nat_lt, true, false, sym, arith, length}
use Rattle.worker_parts.specs.Outlets.{Trying}
use Rattle.worker_parts.proofs.EndLemmas.{trying_first, trying_next, trying_as, lt_next, lt_none, lt_same, lt_true}
use Rattle.worker_parts.proofs.outlets.end_all.Goals as goal

pub loop-at-init : goal.loop-at-init
loop-at-init g c = trying_as (λ j. false) (λ j. nat_lt j 0) c.args.ends.now.items c.args.ends.now.items true (λ j lt. sym (lt_none j)) (trying_first c.args.ends.now.items)

pub loop-at-preserved : goal.loop-at-preserved
loop-at-preserved g c =
    let n = c.loop-at.at in
    let old = c.args.ends.now.items in
    let mid = c.loop-at.ends.items in
    let new = c.end_at-there.new.ends.items in
    let here : n < length mid = let t = c.loop-at-test.true in let b = c.len-at-end.ensures in let ok = c.args.ends.now.ok in let same = c.loop-at.invariant.tried.0 in omega arith in
    let next = trying_next (λ j. nat_lt j n) n old mid new c.loop-at.all c.end_at-there.result (lt_same n) here c.loop-at.invariant c.end_at-there.ensures in
    let onward = trying_as (λ j. nat_lt j n || eqb j n) (λ j. nat_lt j (n + 1)) old new (c.loop-at.all && c.end_at-there.result) (λ j lt. lt_next j n) next in
    subst (λ (b : Bool). Trying (λ j. nat_lt j (n + 1)) old new b) (sym c.are_both-all.ensures) onward

pub returns : goal.returns
returns g c =
    trying_as (λ j. nat_lt j c.loop-at.at) (λ j. true) c.args.ends.now.items c.loop-at.ends.items c.loop-at.all
    (λ j lt. lt_true j c.loop-at.at (let a = c.loop-at-test.false in let b = c.len-at-end.ensures in let ok = c.args.ends.now.ok in omega arith)) c.loop-at.invariant
