use Rattle.std.proofs.Common.{List, length, sym, ◌∙◌, ap, subst, arith}
use Rattle.run_report.proofs.PartLemmas.{none_left, shorter}
use Rattle.run_report.proofs.parting.part_each.Goals as goal

pub loop-k-init : goal.loop-k-init
loop-k-init g c =
    let e = c.of-workers.ensures in
    let old = c.args.pipes.now in
    let was = c.args.left.now in
    record {
      count = let a = ap length e in omega arith;
      fits = subst (λ (ws : List g.row.W.Denot). g.W.Apart.fits ws old was) (sym e) c.requires;
      gave = λ k p all. subst (λ (ws : List g.row.W.Denot). g.W.Apart.gave ws old was k p) e all;
    }

pub next-requires : goal.next-requires
next-requires g c = let t = c.loop-k-test.true in let n = c.len-count.ensures in let o = c.args.workers.ok in let l = c.loop-k.invariant.count in omega arith

pub take_apart-requires : goal.take_apart-requires
take_apart-requires g c = (c.next.new.self, subst (λ (ws : List g.row.W.Denot). g.W.Apart.fits ws c.loop-k.pipes c.loop-k.left) c.next.ensures c.loop-k.invariant.fits)

pub loop-k-preserved : goal.loop-k-preserved
loop-k-preserved g c =
    let at = c.loop-k in
    let inv = at.invariant in
    let is = c.next.ensures in
    let next = c.take_apart.ensures in
    record {
      count = shorter _ _ _ _ _ is inv.count;
      fits = next.fits c.next.new.self (subst (λ (ws : List g.row.W.Denot). g.W.Apart.fits ws at.pipes at.left) is inv.fits);
      gave = λ k p rest. inv.gave k p (subst (λ (ws : List g.row.W.Denot). g.W.Apart.gave ws at.pipes at.left k p) (sym is) (next.gave c.next.new.self k p rest));
    }

pub destroy_empty-requires : goal.destroy_empty-requires
destroy_empty-requires g c = ap length (none_left _ _ _ _ c.loop-k-test.false (c.len-count.ensures ∙ c.args.workers.ok.0) c.loop-k.invariant.count)

pub returns : goal.returns
returns g c =
    let at = c.loop-k in
    let none = none_left _ _ _ _ c.loop-k-test.false (c.len-count.ensures ∙ c.args.workers.ok.0) at.invariant.count in
    at.invariant.gave _ _ (subst (λ (ws : List g.row.W.Denot). g.W.Apart.gave ws at.pipes at.left at.pipes at.left) (sym none) (g.met.W.Apart.none_gave at.pipes at.left))
