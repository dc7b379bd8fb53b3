use Rattle.std.proofs.Common.{ℕ, length, refl, ◌∙◌, ap, subst, arith}
use Rattle.std.specs.Arc.{arc_value}
use Rattle.router_rules.specs.Links.{link_count}
use Rattle.router_rules.specs.declared.shared.Shared.{Shared}
use Rattle.run_pipes.specs.Piping.{IsTakerThere}
use Rattle.run_pipes.specs.Pipes.{HaveProcessors}
use Rattle.run_pipes.proofs.Fresh.{takers_are}
use Rattle.run_workers.specs.Kits.{IsWorkingThere}
use Rattle.run_workers.specs.Shares.{HaveGone}
use Rattle.run_workers.proofs.Making.{all_taken, next_new, none_gone, one_gone, taker_new, taker_of}
use Rattle.run_pipes.proofs.RestLemmas.{all_made, all_none, all_pushed, pushed_long, rest_first, rest_next}
use Rattle.run_workers.proofs.deciding.processors_of.Goals as goal

pub loop-index-init : goal.loop-index-init
loop-index-init g c =
    let config = (arc_value c.args.common.now.shared).config in
    record {
      count = (ap length c.in_ok-made.ensures.items, let r = c.in_ok-made.ensures.capacity in let f = c.from.ensures in omega arith);
      shares = none_gone (link_count config) config.processors c.args.shares.now c.requires.shares;
      made = λ p made takers. (all_none (IsWorkingThere config p) 0 c.in_ok-made.made.items c.in_ok-made.ensures.items, made, takers_are p.packets config.processors c.of-takers.result (c.of-takers.ensures ∙ takers) made.piping.processors);
    }

pub next-taker-requires : goal.next-taker-requires
next-taker-requires g c =
    let was = c.requires.pipes in
    let d = ap (λ (s : Shared). s.config.processors) c.deref.ensures in
    let t = c.loop-index-test.true in let n = (c.loop-index.invariant.made was.0 was.1 was.2).2.count in omega arith

pub next-share-requires : goal.next-share-requires
next-share-requires g c =
    let t = c.loop-index-test.true in
    let n = c.loop-index.invariant.shares.count in
    let e = c.requires.shares.enough in
    let d = ap (λ (s : Shared). s.config.processors) c.deref.ensures in
    omega arith

pub processor_of-requires-clause-pipes : goal.processor_of-requires-clause-pipes
processor_of-requires-clause-pipes g c = let was = c.requires.pipes in (was.0, (c.loop-index.invariant.made was.0 was.1 was.2).1)

pub processor_of-requires-clause-index : goal.processor_of-requires-clause-index
processor_of-requires-clause-index g c = let t = c.loop-index-test.true in let d = ap (λ (s : Shared). s.config.processors) c.deref.ensures in omega arith

pub processor_of-requires-clause-taker : goal.processor_of-requires-clause-taker
processor_of-requires-clause-taker g c =
    let at = c.loop-index in
    let was = c.requires.pipes in
    let there = rest_first (IsTakerThere was.0.packets) at.index _ at.takers c.next-taker.new.self c.next-taker.result c.next-taker.ensures (at.invariant.made was.0 was.1 was.2).2 in
    taker_new (link_count (arc_value c.args.common.now.shared).config) was.0.packets at.index c.next-taker.result was.1.piping.packets there

pub processor_of-requires-clause-share : goal.processor_of-requires-clause-share
processor_of-requires-clause-share g c = next_new (link_count (arc_value c.args.common.now.shared).config) c.loop-index.index c.args.shares.now c.loop-index.shares c.next-share.new.self c.next-share.result c.next-share.ensures c.loop-index.invariant.shares

pub push_reserved-requires : goal.push_reserved-requires
push_reserved-requires g c = let t = c.loop-index-test.true in let n = c.loop-index.invariant.count.0 in let room = c.loop-index.invariant.count.1 in omega arith

pub loop-index-preserved : goal.loop-index-preserved
loop-index-preserved g c =
    let config = (arc_value c.args.common.now.shared).config in
    let at = c.loop-index in
    let inv = at.invariant in
    let w = c.in_ok-processor.processor in
    record {
      count = (pushed_long at.index at.made.items c.push_reserved.new.self.items w c.push_reserved.ensures.items inv.count.0, rw c.push_reserved.ensures.capacity inv.count.1);
      shares = one_gone (link_count config) at.index c.args.shares.now at.shares c.next-share.new.self c.next-share.result c.next-share.ensures inv.shares;
      made = λ p made takers.
          let was = inv.made p made takers in
          let there : IsTakerThere p.packets at.index c.next-taker.result = rest_first (IsTakerThere p.packets) at.index _ at.takers c.next-taker.new.self c.next-taker.result c.next-taker.ensures was.2 in
          let does = c.in_ok-processor.ensures p was.1 in
          let works : IsWorkingThere config p at.index w = record { own = there.own; there = there.there; works = does.1 there.own (taker_of there.own c.next-taker.result c.next-taker.result refl there.fresh) } in (
            all_pushed (IsWorkingThere config p) at.index at.made.items c.push_reserved.new.self.items w c.push_reserved.ensures.items was.0 inv.count.0 works,
            does.0,
            rest_next (IsTakerThere p.packets) at.index _ at.takers c.next-taker.new.self c.next-taker.result c.next-taker.ensures was.2,
          );
    }

pub returns-clause-shares : goal.returns-clause-shares
returns-clause-shares g c =
    let at = c.loop-index in
    let n = all_taken at.index _ (arc_value c.args.common.now.shared).config.processors at.auto.index-end c.loop-index-test.false (ap (λ (s : Shared). s.config.processors) c.deref.ensures) in
    subst (λ (k : ℕ). HaveGone (link_count (arc_value c.args.common.now.shared).config) k c.args.shares.now at.shares) n at.invariant.shares

pub returns-clause-made : goal.returns-clause-made
returns-clause-made g c = λ p made takers.
    let config = (arc_value c.args.common.now.shared).config in
    let at = c.loop-index in
    let was = at.invariant.made p made takers in
    let n = all_taken at.index _ config.processors at.auto.index-end c.loop-index-test.false (ap (λ (s : Shared). s.config.processors) c.deref.ensures) in
    (subst (λ (k : ℕ). HaveProcessors config k p at.pipes) n was.1, all_made (IsWorkingThere config p) at.index config.processors at.made.items n at.invariant.count.0 was.0)
