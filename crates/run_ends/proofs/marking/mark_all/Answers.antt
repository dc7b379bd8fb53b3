use Rattle.std.proofs.Common.{◌≡◌, ℕ, suc, ◌+◌, ◌<◌, slice_set, length, false, refl, sym, subst, arith}
use Rattle.run_ends.specs.Shutting.{Ends, EndsUpTo, Shutting}
use Rattle.run_ends.proofs.ShuttingLemmas.{all_ended, ended_next, still_open}
use Rattle.run_ends.proofs.marking.mark_all.Goals as goal

pub end-requires : goal.end-requires
end-requires g c =
    let at = c.loop-k in
    let olds = c.args.shutters.now in
    let lt : at.k < length olds.items = let t = c.loop-k-test.true in let e = c.len-k-end.ensures in let o = olds.ok in omega arith in
    let d = c.index_mut.result.now in
    subst (λ (r : Shutting _). r.ended ≡ false) (sym c.index_mut.ensures.value) (still_open at.k olds.items at.shutters.items d at.invariant lt c.requires)

pub loop-k-preserved : goal.loop-k-preserved
loop-k-preserved g c =
    let at = c.loop-k in
    let olds = c.args.shutters.now in
    let lt : at.k < length olds.items = let t = c.loop-k-test.true in let e = c.len-k-end.ensures in let o = olds.ok in omega arith in
    let d = c.index_mut.result.now in
    let n : suc at.k ≡ at.k + 1 = omega arith in
    subst (λ (k : ℕ). EndsUpTo k olds.items (slice_set at.shutters.items at.k c.end.new.self)) n
    (ended_next at.k olds.items at.shutters.items c.end.new.self d at.invariant lt (subst (λ (r : Shutting _). Ends r c.end.new.self) c.index_mut.ensures.value c.end.ensures))

pub returns : goal.returns
returns g c =
    let at = c.loop-k in
    let olds = c.args.shutters.now in
    all_ended at.k olds.items at.shutters.items at.invariant (let a = at.auto.k-end in let e = c.len-k-end.ensures in let o = olds.ok in let f = c.loop-k-test.false in omega arith)

pub loop-k-init : goal.loop-k-init
loop-k-init g c = refl
