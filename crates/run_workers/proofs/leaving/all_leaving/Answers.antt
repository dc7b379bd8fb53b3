use Rattle.std.proofs.Common.{◌≡◌, ℕ, ◌+◌, ◌*◌, List, ◌∷◌, length, sym, ◌∙◌, ap, subst, arith}
use Rattle.std.specs.Arc.{arc_value}
use Rattle.process_packet.specs.declared.config.Config.{Config}
use Rattle.ruled_pipe.specs.Pipe.{Shape}
use Rattle.ruled_pipe.specs.Consumer.{Taker}
use Rattle.router_rules.specs.Links.{link_count}
use Rattle.router_rules.specs.declared.shared.Shared.{Shared}
use Rattle.run_ends.specs.Opened.{made_pipes}
use Rattle.run_ends.specs.Rows.{fresh_ends}
use Rattle.order_laws.specs.Item.{Outgoing}
use Rattle.packet_ledger.specs.Share.{Held}
use Rattle.router_rules.specs.Rules.{kinds}
use Rattle.worker_forwarder.specs.Forwarding.{Band}
use Rattle.run_pipes.specs.Piping.{IsTakerThere, Piping}
use Rattle.run_pipes.specs.Pipes.{HaveForwarders}
use Rattle.run_pipes.specs.Rest.{IsRest}
use Rattle.run_pipes.proofs.Fresh.{fresh_long, takers_are}
use Rattle.run_workers.specs.Kits.{Exit, IsLeavingAt}
use Rattle.packet_ledger.proofs.Closing.{is_new}
use Rattle.run_workers.proofs.Making.{all_taken, next_new, none_gone, one_gone, taker_new, taker_of}
use Rattle.run_pipes.proofs.RestLemmas.{all_made, all_none, all_pushed, pushed_long, rest_first, rest_next}
use Rattle.run_workers.proofs.leaving.all_leaving.Goals as goal

-- the two consumers of a link, and what is left
first_two : {T : Type 0} (ss : List Shape) (l n : ℕ) (old mid new : List (Taker T)) (a b : Taker T) → old ≡ a ∷ mid → mid ≡ b ∷ new → IsRest (IsTakerThere ss) (2 * l) n old
    → IsTakerThere ss (2 * l) a × (IsTakerThere ss (2 * l + 1) b × IsRest (IsTakerThere ss) (2 * (l + 1)) n new)
first_two {T = T} ss l n old mid new a b one two r =
    let next = rest_next (IsTakerThere ss) (2 * l) n old mid a one r in
    let last = rest_next (IsTakerThere ss) (2 * l + 1) n mid new b two next in
    let e : 2 * l + 1 + 1 ≡ 2 * (l + 1) = omega arith in
    (rest_first (IsTakerThere ss) (2 * l) n old mid a one r, (rest_first (IsTakerThere ss) (2 * l + 1) n mid new b two next, subst (λ (k : ℕ). IsRest (IsTakerThere ss) k n new) e last))

left_at : (c : Config) (p : Piping) (l : ℕ) (e : Exit) (a b : Taker (Outgoing kinds)) → e.config ≡ c → e.link ≡ l → e.low.taker ≡ a → e.high.taker ≡ b → IsTakerThere p.egress_packets (2 * l) a → IsTakerThere p.egress_packets (2 * l + 1) b → e.free ≡ fresh_ends (c.processors + 1 + l) p.free
    → e.share.place ≡ link_count c + c.processors + 1 + l → IsLeavingAt c p l e
left_at c p l e a b config link low high first second free place = record {
  config = config;
  link = link;
  first = first.own;
  second = second.own;
  first_there = first.there;
  second_there = second.there;
  low = taker_of first.own a e.low.taker low first.fresh;
  high = taker_of second.own b e.high.taker high second.fresh;
  free = free;
  place = place;
}

pub loop-link-init : goal.loop-link-init
loop-link-init g c =
    let config = (arc_value c.args.common.now.shared).config in
    record {
      count = (ap length c.in_ok-made.ensures.items, c.in_ok-made.ensures.capacity);
      shares = none_gone (link_count config + config.processors + 1) (link_count config) c.args.shares.now c.requires.shares;
      made = λ p made takers. (all_none (IsLeavingAt config p) 0 c.in_ok-made.made.items c.in_ok-made.ensures.items, made, takers_are p.egress_packets (2 * link_count config) c.of-takers.result (c.of-takers.ensures ∙ takers) made.piping.links);
    }

pub next_producers-requires : goal.next_producers-requires
next_producers-requires g c =
    let at = c.loop-link in
    let was = c.requires.pipes in
    let have = (at.invariant.made was.0 was.1 was.2).1 in
    let config = (arc_value c.args.common.now.shared).config in
    let links : c.link_count-links.result ≡ link_count config = (let a = c.link_count-links.ensures.count in let d = c.deref.ensures in cc) in
    (config.processors + 1 + at.link, config.processors + 2 + link_count config, was.0.free, have.free, have.piping.free, (let t = c.loop-link-test.true in omega arith))

pub next-low-requires : goal.next-low-requires
next-low-requires g c =
    let was = c.requires.pipes in
    let links : c.link_count-links.result ≡ link_count (arc_value c.args.common.now.shared).config = (let a = c.link_count-links.ensures.count in let d = c.deref.ensures in cc) in
    let t = c.loop-link-test.true in let n = (c.loop-link.invariant.made was.0 was.1 was.2).2.count in omega arith

pub next-high-requires : goal.next-high-requires
next-high-requires g c =
    let was = c.requires.pipes in
    let links : c.link_count-links.result ≡ link_count (arc_value c.args.common.now.shared).config = (let a = c.link_count-links.ensures.count in let d = c.deref.ensures in cc) in
    let t = c.loop-link-test.true in let n = (c.loop-link.invariant.made was.0 was.1 was.2).2.count in let l = ap length c.next-low.ensures in omega arith

pub leaving_at-requires-clause-share : goal.leaving_at-requires-clause-share
leaving_at-requires-clause-share g c = is_new _ c.next-share.result (next_new _ c.loop-link.link c.args.shares.now c.loop-link.shares c.next-share.new.self c.next-share.result c.next-share.ensures c.loop-link.invariant.shares)

pub push_reserved-requires : goal.push_reserved-requires
push_reserved-requires g c = let t = c.loop-link-test.true in let n = c.loop-link.invariant.count.0 in let room = c.loop-link.invariant.count.1 in omega arith

pub leaving_at-requires-clause-low : goal.leaving_at-requires-clause-low
leaving_at-requires-clause-low g c =
    let at = c.loop-link in
    let was = c.requires.pipes in
    let two = first_two was.0.egress_packets at.link _ at.takers c.next-low.new.self c.next-high.new.self c.next-low.result c.next-high.result c.next-low.ensures c.next-high.ensures (at.invariant.made was.0 was.1 was.2).2 in
    let is = taker_new ((arc_value c.args.common.now.shared).config.processors + 2) was.0.egress_packets (2 * at.link) c.next-low.result was.1.piping.egress_packets two.0 in
    (is.0, is.1 ∙ sym (ap (λ (n : ℕ). n + 2) (c.from-producers.ensures ∙ ap (λ (s : Shared). s.config.processors) c.deref-2.ensures)))

pub leaving_at-requires-clause-high : goal.leaving_at-requires-clause-high
leaving_at-requires-clause-high g c =
    let at = c.loop-link in
    let was = c.requires.pipes in
    let two = first_two was.0.egress_packets at.link _ at.takers c.next-low.new.self c.next-high.new.self c.next-low.result c.next-high.result c.next-low.ensures c.next-high.ensures (at.invariant.made was.0 was.1 was.2).2 in
    let is = taker_new ((arc_value c.args.common.now.shared).config.processors + 2) was.0.egress_packets (2 * at.link + 1) c.next-high.result was.1.piping.egress_packets two.1.0 in
    (is.0, is.1 ∙ sym (ap (λ (n : ℕ). n + 2) (c.from-producers.ensures ∙ ap (λ (s : Shared). s.config.processors) c.deref-2.ensures)))

pub leaving_at-requires-clause-free : goal.leaving_at-requires-clause-free
leaving_at-requires-clause-free g c =
    let at = c.loop-link in
    let was = c.requires.pipes in
    let k = (arc_value c.args.common.now.shared).config.processors + 1 + at.link in
    let have = (at.invariant.made was.0 was.1 was.2).1 in
    ap length (c.in_ok-free.ensures.ends k was.0.free have.free) ∙ (fresh_long _ k was.0.free ∙ (have.piping.free_links ∙ ap (λ (s : Shared). link_count s.config) (sym c.in_ok-own.ensures)))

pub loop-link-preserved : goal.loop-link-preserved
loop-link-preserved g c =
    let at = c.loop-link in
    let inv = at.invariant in
    let config = (arc_value c.args.common.now.shared).config in
    let k = config.processors + 1 + at.link in
    let e = c.leaving_at.result in
    let linked : e.link ≡ at.link = (let l = c.leaving_at.ensures.config.1 in let few = c.link_count-links.ensures.few in let t = c.loop-link-test.true in omega arith) in
    let low : e.low.taker ≡ c.next-low.result = ap (λ (b : Band). b.taker) c.leaving_at.ensures.bands.0 in
    let high : e.high.taker ≡ c.next-high.result = ap (λ (b : Band). b.taker) c.leaving_at.ensures.bands.1 in
    let own = ◌∙◌ {c = config} c.leaving_at.ensures.config.0 (ap (λ (s : Shared). s.config) c.in_ok-own.ensures) in
    let placed = ap (λ (h : Held). h.place) (c.leaving_at.ensures.share ∙ next_new (link_count config + config.processors + 1) at.link c.args.shares.now at.shares c.next-share.new.self c.next-share.result c.next-share.ensures inv.shares) in
    let more : k + 1 ≡ config.processors + 1 + (at.link + 1) = omega arith in
    record {
      count = (pushed_long at.link at.made.items c.push_reserved.new.self.items e c.push_reserved.ensures.items inv.count.0, rw c.push_reserved.ensures.capacity inv.count.1);
      shares = one_gone (link_count config + config.processors + 1) at.link c.args.shares.now at.shares c.next-share.new.self c.next-share.result c.next-share.ensures inv.shares;
      made = λ p made takers.
          let was = inv.made p made takers in
          let two = first_two p.egress_packets at.link _ at.takers c.next-low.new.self c.next-high.new.self c.next-low.result c.next-high.result c.next-low.ensures c.next-high.ensures was.2 in
          let is = left_at config p at.link e c.next-low.result c.next-high.result own linked low high two.0 two.1.0 (c.leaving_at.ensures.free ∙ c.in_ok-free.ensures.ends k p.free was.1.free) placed in (
            all_pushed (IsLeavingAt config p) at.link at.made.items c.push_reserved.new.self.items e c.push_reserved.ensures.items was.0 inv.count.0 is,
            record { piping = was.1.piping; packets = was.1.packets; requests = was.1.requests; egress_packets = was.1.egress_packets; free = c.in_ok-free.ensures.made k p.free was.1.free ∙ ap (λ (n : ℕ). made_pipes n p.free) more },
            two.1.1,
          );
    }

pub returns : goal.returns
returns g c = λ p made takers.
    let config = (arc_value c.args.common.now.shared).config in
    let at = c.loop-link in
    let was = at.invariant.made p made takers in
    let links : c.link_count-links.result ≡ link_count config = (let a = c.link_count-links.ensures.count in let d = c.deref.ensures in cc) in
    let n = all_taken at.link c.link_count-links.result (link_count config) at.auto.link-end c.loop-link-test.false links in
    (subst (λ (k : ℕ). HaveForwarders config k p at.pipes) n was.1, all_made (IsLeavingAt config p) at.link (link_count config) at.made.items n at.invariant.count.0 was.0)
