use Rattle.std.proofs.Common.{◌≡◌, ℕ, List, length, sym, subst, ◌∙◌, ap, arith}
use Rattle.std.specs.Arc.{arc_value}
use Rattle.order_laws.specs.Item.{Arrival}
use Rattle.packet_ledger.specs.Share.{Held}
use Rattle.router_rules.specs.Rules.{kinds}
use Rattle.ruled_pipe.specs.Consumer.{Taker}
use Rattle.router_rules.specs.Links.{link_count}
use Rattle.worker_parts.specs.Outlet.{Offering}
use Rattle.worker_parts.specs.Outlets.{senders}
use Rattle.run_ends.specs.Rows.{AreEndsOf}
use Rattle.run_pipes.specs.Piping.{IsTakerThere}
use Rattle.run_pipes.specs.Pipes.{HaveReceivers}
use Rattle.run_pipes.proofs.Fresh.{outlets_fresh, outlets_long, outlets_of, takers_are}
use Rattle.run_workers.specs.Kits.{IsEnteringAt}
use Rattle.packet_ledger.proofs.Closing.{is_new}
use Rattle.run_workers.proofs.Making.{all_taken, next_new, none_gone, one_gone}
use Rattle.run_pipes.proofs.RestLemmas.{all_made, all_none, all_pushed, pushed_long, rest_first, rest_next}
use Rattle.run_workers.proofs.entering.all_entering.Goals as goal

pub loop-link-init : goal.loop-link-init
loop-link-init g c =
    let config = (arc_value c.args.common.now.shared).config in
    record {
      count = (ap length c.in_ok-made.ensures.items, c.in_ok-made.ensures.capacity);
      shares = none_gone 0 (link_count config) c.args.shares.now c.requires.shares;
      made = λ p made takers. (all_none (IsEnteringAt config p) 0 c.in_ok-made.made.items c.in_ok-made.ensures.items, made, takers_are p.free (link_count config) c.of-free.result (c.of-free.ensures ∙ takers) made.piping.free_links);
    }

pub outlets-requires-clause-pipes : goal.outlets-requires-clause-pipes
outlets-requires-clause-pipes g c =
    let at = c.loop-link in
    let was = c.requires.pipes in
    let have = (at.invariant.made was.0 was.1 was.2).1 in
    let n = link_count (arc_value c.args.common.now.shared).config in
    let links : c.link_count-links.result ≡ n = (let a = c.link_count-links.ensures.count in let d = c.deref.ensures in cc) in
    (at.link, n, was.0.packets, have.packets, have.piping.packets, (let t = c.loop-link-test.true in omega arith))

pub next-taker-requires : goal.next-taker-requires
next-taker-requires g c =
    let was = c.requires.pipes in
    let links : c.link_count-links.result ≡ link_count (arc_value c.args.common.now.shared).config = (let a = c.link_count-links.ensures.count in let d = c.deref.ensures in cc) in
    let t = c.loop-link-test.true in let n = (c.loop-link.invariant.made was.0 was.1 was.2).2.count in omega arith

pub entering_at-requires-clause-processors : goal.entering_at-requires-clause-processors
entering_at-requires-clause-processors g c =
    let at = c.loop-link in
    let was = c.requires.pipes in
    let have = (at.invariant.made was.0 was.1 was.2).1 in
    let ends = c.in_ok-processors.ensures.ends at.link was.0.packets have.packets in
    ((outlets_fresh _ 0 at.link was.0.packets _ ends).1, outlets_long _ at.link was.0.packets _ ends ∙ have.piping.processors)

pub entering_at-requires-clause-free : goal.entering_at-requires-clause-free
entering_at-requires-clause-free g c =
    let was = c.requires.pipes in
    let there = rest_first (IsTakerThere was.0.free) c.loop-link.link _ c.loop-link.free c.next-taker.new.self c.next-taker.result c.next-taker.ensures (c.loop-link.invariant.made was.0 was.1 was.2).2 in
    ap (λ (t : Taker (List ℕ)). t.looks) there.fresh

pub entering_at-requires-clause-share : goal.entering_at-requires-clause-share
entering_at-requires-clause-share g c = is_new _ c.next-share.result (next_new 0 c.loop-link.link c.args.shares.now c.loop-link.shares c.next-share.new.self c.next-share.result c.next-share.ensures c.loop-link.invariant.shares)

pub push_reserved-requires : goal.push_reserved-requires
push_reserved-requires g c = let t = c.loop-link-test.true in let n = c.loop-link.invariant.count.0 in let room = c.loop-link.invariant.count.1 in omega arith

pub loop-link-preserved : goal.loop-link-preserved
loop-link-preserved g c =
    let at = c.loop-link in
    let inv = at.invariant in
    let config = (arc_value c.args.common.now.shared).config in
    let e = c.in_ok-entering.entering in
    let told = c.in_ok-entering.ensures in
    let placed : e.share.place ≡ at.link = (let s = ap (λ (h : Held). h.place) (told.share ∙ next_new 0 at.link c.args.shares.now at.shares c.next-share.new.self c.next-share.result c.next-share.ensures inv.shares) in omega arith) in
    let linked : e.link ≡ at.link = (let l = told.config.1 in let few = c.link_count-links.ensures.few in let t = c.loop-link-test.true in omega arith) in
    record {
      count = (pushed_long at.link at.made.items c.push_reserved.new.self.items e c.push_reserved.ensures.items inv.count.0, rw c.push_reserved.ensures.capacity inv.count.1);
      shares = one_gone 0 at.link c.args.shares.now at.shares c.next-share.new.self c.next-share.result c.next-share.ensures inv.shares;
      made = λ p made takers.
          let was = inv.made p made takers in
          let there : IsTakerThere p.free at.link c.next-taker.result = rest_first (IsTakerThere p.free) at.link _ at.free c.next-taker.new.self c.next-taker.result c.next-taker.ensures was.2 in
          let ends = outlets_of _ at.link p.packets _ (c.in_ok-processors.ensures.ends at.link p.packets was.1.packets) in
          let is : IsEnteringAt config p at.link e = record {
            config = told.config.0;
            link = linked;
            processors = subst (λ (os : List (Offering (Arrival kinds))). AreEndsOf at.link p.packets (senders os)) (sym told.ends.1) ends;
            free = subst (λ (t : Taker (List ℕ)). IsTakerThere p.free at.link t) (sym told.ends.0) there;
            place = placed;
          } in (
            all_pushed (IsEnteringAt config p) at.link at.made.items c.push_reserved.new.self.items e c.push_reserved.ensures.items was.0 inv.count.0 is,
            record { piping = was.1.piping; packets = c.in_ok-processors.ensures.made at.link p.packets was.1.packets; requests = was.1.requests; egress_packets = was.1.egress_packets; free = was.1.free },
            rest_next (IsTakerThere p.free) at.link _ at.free c.next-taker.new.self c.next-taker.result c.next-taker.ensures was.2,
          );
    }

pub returns-clause-made : goal.returns-clause-made
returns-clause-made g c = λ p made takers.
    let config = (arc_value c.args.common.now.shared).config in
    let at = c.loop-link in
    let was = at.invariant.made p made takers in
    let links : c.link_count-links.result ≡ link_count config = (let a = c.link_count-links.ensures.count in let d = c.deref.ensures in cc) in
    let n = all_taken at.link c.link_count-links.result (link_count config) at.auto.link-end c.loop-link-test.false links in
    (subst (λ (k : ℕ). HaveReceivers config k p at.pipes) n was.1, all_made (IsEnteringAt config p) at.link (link_count config) at.made.items n at.invariant.count.0 was.0)
