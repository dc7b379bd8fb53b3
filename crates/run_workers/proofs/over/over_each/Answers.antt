use Rattle.std.proofs.Common.{◌≡◌, List, length, sym, ◌∙◌, ap, subst, arith}
use Rattle.order_laws.specs.Deeds.{Each}
use Rattle.run_workers.specs.Kits.{paired}
use Rattle.run_workers.proofs.Making.{paired_first, paired_last, paired_next}
use Rattle.run_pipes.proofs.RestLemmas.{pushed_long}
use Rattle.run_workers.proofs.over.over_each.Goals as goal

pub loop-k-init : goal.loop-k-init
loop-k-init g c =
    let ps = c.of-parts.ensures in
    let ds = c.of-devices.ensures in
    record {
      left = let l = ap length ps in omega arith;
      both = ap length ds ∙ (c.requires.count ∙ sym (ap length ps));
      fit = subst (λ (xs : List g.row.D.Denot). Each (λ (d : g.row.D.Denot). g.P.Over.fits d) xs) (sym ds) c.requires.fit;
      room = (ap length c.requires.room.0, c.requires.room.1);
      made = paired_first g.P.Over.worker c.args.room.items c.of-parts.result c.args.parts.items c.of-devices.result c.args.devices.items c.requires.room.0 ps ds;
    }

pub next-device-requires : goal.next-device-requires
next-device-requires g c = let at = c.loop-k in let t = c.loop-k-test.true in let n = c.len-count.ensures in let l = at.invariant.left in let b = at.invariant.both in omega arith

pub next-requires : goal.next-requires
next-requires g c = let at = c.loop-k in let t = c.loop-k-test.true in let n = c.len-count.ensures in let l = at.invariant.left in omega arith

pub over-requires : goal.over-requires
over-requires g c =
    let is = subst (λ (xs : List g.row.D.Denot). Each (λ (d : g.row.D.Denot). g.P.Over.fits d) xs) c.next-device.ensures c.loop-k.invariant.fit in
    is.0

pub push_reserved-requires : goal.push_reserved-requires
push_reserved-requires g c = let at = c.loop-k in let t = c.loop-k-test.true in let n = c.len-count.ensures in let l = at.invariant.room.0 in let r = at.invariant.room.1 in omega arith

pub loop-k-preserved : goal.loop-k-preserved
loop-k-preserved g c =
    let at = c.loop-k in
    let ps = c.next.ensures in
    let ds = c.next-device.ensures in
    let made = c.push_reserved.ensures in
    record {
      left = let e = ap length ps in let l = at.invariant.left in omega arith;
      both = let e = ap length ps in let s = ap length ds in let b = at.invariant.both in omega arith;
      fit = (subst (λ (xs : List g.row.D.Denot). Each (λ (d : g.row.D.Denot). g.P.Over.fits d) xs) ds at.invariant.fit).1;
      room = (pushed_long at.k at.workers.items c.push_reserved.new.self.items c.over.result made.items at.invariant.room.0, rw made.capacity at.invariant.room.1);
      made = paired_next g.P.Over.worker at.workers.items c.push_reserved.new.self.items c.over.result at.parts c.next.new.self at.devices c.next-device.new.self c.next.result c.next-device.result
          (paired g.P.Over.worker c.args.parts.items c.args.devices.items) c.over.ensures ps ds made.items at.invariant.made;
    }

pub destroy_empty-requires : goal.destroy_empty-requires
destroy_empty-requires g c = let at = c.loop-k in let f = c.loop-k-test.false in let n = c.len-count.ensures in let l = at.invariant.left in omega arith

pub destroy_empty-requires-2 : goal.destroy_empty-requires-2
destroy_empty-requires-2 g c = let at = c.loop-k in let f = c.loop-k-test.false in let n = c.len-count.ensures in let l = at.invariant.left in let b = at.invariant.both in omega arith

pub returns : goal.returns
returns g c =
    let at = c.loop-k in
    let none : length at.parts ≡ 0 = let a = at.auto.k-end in let f = c.loop-k-test.false in let n = c.len-count.ensures in let l = at.invariant.left in omega arith in
    paired_last g.P.Over.worker at.workers.items at.parts at.devices (paired g.P.Over.worker c.args.parts.items c.args.devices.items) none at.invariant.made
