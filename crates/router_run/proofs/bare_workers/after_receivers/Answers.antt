use Rattle.std.proofs.Common.{◌≡◌, ◌+◌, ℕ, length, ◌∙◌, ap, subst, arith}
use Rattle.std.proofs.lemmas.List.{length-map}
use Rattle.std.specs.Arc.{arc_value}
use Rattle.order_laws.specs.Item.{Outgoing}
use Rattle.router_rules.specs.Links.{link_count}
use Rattle.router_rules.specs.Rules.{kinds}
use Rattle.router_rules.specs.declared.shared.Shared.{Shared}
use Rattle.worker_parts.specs.Outlets.{are_used}
use Rattle.run_ends.specs.Opened.{made_pipe, made_pipes}
use Rattle.run_ends.specs.Rows.{fresh_ends}
use Rattle.run_ends.specs.Shutting.{AreNew}
use Rattle.run_workers.proofs.Making.{left_new, next_new, one_gone}
use Rattle.router_run.proofs.bare_workers.after_receivers.Goals as goal

pub processors_of-requires-clause-pipes : goal.processors_of-requires-clause-pipes
processors_of-requires-clause-pipes g c = let was = c.requires.pipes in (was.0, was.1, was.2)

pub processors_of-requires-clause-shares : goal.processors_of-requires-clause-shares
processors_of-requires-clause-shares g c = let r = c.requires.shares in record { each = r.each; enough = let e = r.enough in omega arith }

pub next-requires : goal.next-requires
next-requires g c = let e = c.requires.shares.enough in let n = c.in_ok-processors.ensures.shares.count in omega arith

pub slow_path_of-requires-clause-pipes : goal.slow_path_of-requires-clause-pipes
slow_path_of-requires-clause-pipes g c = let was = c.requires.pipes in (was.0, (c.in_ok-processors.ensures.made was.0 was.1 was.2).0, was.3)

pub slow_path_of-requires-clause-share : goal.slow_path_of-requires-clause-share
slow_path_of-requires-clause-share g c = next_new (link_count (arc_value c.args.common.now.shared).config) (arc_value c.args.common.now.shared).config.processors c.args.shares.now c.processors_of.new.shares c.next.new.self c.next.result c.next.ensures c.in_ok-processors.ensures.shares

pub shutters-requires-clause-pipes : goal.shutters-requires-clause-pipes
shutters-requires-clause-pipes g c =
    let was = c.requires.pipes in
    let have = (c.in_ok-slow.ensures was.0 (c.in_ok-processors.ensures.made was.0 was.1 was.2).0 was.3).0 in
    let m = (arc_value c.args.common.now.shared).config.processors in
    (m + 1, m + 2, was.0.egress_packets, have.egress_packets, have.piping.egress_packets, omega arith)

pub shutters-requires-clause-few : goal.shutters-requires-clause-few
shutters-requires-clause-few g c =
    let was = c.requires.pipes in
    let have = (c.in_ok-slow.ensures was.0 (c.in_ok-processors.ensures.made was.0 was.1 was.2).0 was.3).0 in
    let m = (arc_value c.args.common.now.shared).config.processors in
    let is = ap length have.egress_packets in
    let long = length-map was.0.egress_packets (made_pipe {T = Outgoing kinds} (m + 1)) in
    let count = have.piping.links in
    let few = c.link_count.ensures.few in
    let links = c.link_count.ensures.count ∙ ap (λ (s : Shared). link_count s.config) c.deref.ensures in
    omega arith

pub all_leaving-requires-clause-pipes : goal.all_leaving-requires-clause-pipes
all_leaving-requires-clause-pipes g c =
    let was = c.requires.pipes in
    let p = was.0 in
    let m = (arc_value c.args.common.now.shared).config.processors in
    let have = (c.in_ok-slow.ensures p (c.in_ok-processors.ensures.made p was.1 was.2).0 was.3).0 in
    let two : m + 1 + 1 ≡ m + 2 = omega arith in
    let none : m + 1 ≡ m + 1 + 0 = omega arith in
    (p, record { piping = have.piping; packets = have.packets; requests = have.requests; egress_packets = c.in_ok-shutters.ensures.made (m + 1) p.egress_packets have.egress_packets ∙ ap (λ (k : ℕ). made_pipes k p.egress_packets) two; free = have.free ∙ ap (λ (k : ℕ). made_pipes k p.free) none }, was.4)

pub all_leaving-requires-clause-shares : goal.all_leaving-requires-clause-shares
all_leaving-requires-clause-shares g c =
    let config = (arc_value c.args.common.now.shared).config in
    let gone = one_gone (link_count config) config.processors c.args.shares.now c.processors_of.new.shares c.next.new.self c.next.result c.next.ensures c.in_ok-processors.ensures.shares in
    left_new (link_count config) (config.processors + 1) (link_count config) (link_count config + config.processors + 1) c.args.shares.now c.next.new.self gone (omega arith) c.requires.shares.enough

pub returns : goal.returns
returns g c = λ p made packets requests egress_packets.
    let m = (arc_value c.args.common.now.shared).config.processors in
    let works = c.in_ok-processors.ensures.made p made packets in
    let answers = c.in_ok-slow.ensures p works.0 requests in
    let have = answers.0 in
    let two : m + 1 + 1 ≡ m + 2 = omega arith in
    let none : m + 1 ≡ m + 1 + 0 = omega arith in
    let leaves = c.in_ok-forwarders.ensures p (record { piping = have.piping; packets = have.packets; requests = have.requests; egress_packets = c.in_ok-shutters.ensures.made (m + 1) p.egress_packets have.egress_packets ∙ ap (λ (k : ℕ). made_pipes k p.egress_packets) two; free = have.free ∙ ap (λ (k : ℕ). made_pipes k p.free) none }) egress_packets in (
      leaves.0,
      record {
        working = works.1;
        answering = answers.1;
        leaving = leaves.1;
        shutting = subst (λ (s : Shared). AreNew (are_used s.config) 0 (fresh_ends (m + 1) p.egress_packets) c.in_ok-shutters.shutters.items) c.deref-2.ensures (c.in_ok-shutters.ensures.ends (m + 1) p.egress_packets have.egress_packets);
      },
    )
