use Rattle.std.proofs.Common.{◌*◌, ◌+◌, Some, length, refl, sym, ◌∙◌, ap, subst, arith}
use Rattle.std.specs.Arc.{arc_value}
use Rattle.ruled_pipe.specs.Pipe.{IsTakerOf}
use Rattle.ruled_pipe.specs.Consumer.{Taker}
use Rattle.run_ends.specs.Rows.{AreEndsOf}
use Rattle.order_laws.specs.Settled.{SlowPathRequest}
use Rattle.router_rules.specs.Links.{link_count}
use Rattle.router_rules.specs.Rules.{kinds}
use Rattle.router_rules.specs.declared.shared.Shared.{Shared}
use Rattle.worker_parts.specs.Outlets.{AreFresh, senders}
use Rattle.run_pipes.proofs.Fresh.{fresh_long, outlets_fresh, outlets_long, outlets_of}
use Rattle.packet_ledger.specs.Share.{Held}
use Rattle.packet_ledger.proofs.Closing.{is_new}
use Rattle.run_workers.proofs.deciding.slow_path_of.Goals as goal

pub outlets-requires-clause-pipes : goal.outlets-requires-clause-pipes
outlets-requires-clause-pipes g c =
    let was = c.requires.pipes in
    let m = (arc_value c.args.common.now.shared).config.processors in
    (m, m + 2, was.0.egress_packets, was.1.egress_packets, was.1.piping.egress_packets, omega arith)

pub outlets-requires-clause-each : goal.outlets-requires-clause-each
outlets-requires-clause-each g c = omega arith

pub next_producers-requires : goal.next_producers-requires
next_producers-requires g c =
    let was = c.requires.pipes in
    let config = (arc_value c.args.common.now.shared).config in
    (config.processors, config.processors + 2 + link_count config, was.0.free, was.1.free, was.1.piping.free, omega arith)

pub of-from-requires-clause-fresh : goal.of-from-requires-clause-fresh
of-from-requires-clause-fresh g c = ap (λ (t : Taker (SlowPathRequest kinds)). t.taken) c.requires.pipes.2

pub of-from-requires-clause-producers : goal.of-from-requires-clause-producers
of-from-requires-clause-producers g c =
    let was = c.requires.pipes in
    ap (λ (t : Taker (SlowPathRequest kinds)). t.producers) was.2 ∙ (was.1.piping.requests ∙ sym (c.from-processors.ensures ∙ ap (λ (s : Shared). s.config.processors) c.deref.ensures))

pub new-slow_path-requires-clause-config : goal.new-slow_path-requires-clause-config
new-slow_path-requires-clause-config g c = c.requires.config ∙ ap (λ (s : Shared). Some s.config) (sym c.in_ok-shared.ensures)

pub new-slow_path-requires-clause-from : goal.new-slow_path-requires-clause-from
new-slow_path-requires-clause-from g c = ap (λ t. t.taken) c.of-from.ensures ∙ ap (λ (t : Taker (SlowPathRequest kinds)). t.taken) c.requires.pipes.2

pub new-slow_path-requires-clause-links : goal.new-slow_path-requires-clause-links
new-slow_path-requires-clause-links g c =
    let was = c.requires.pipes in
    let m = (arc_value c.args.common.now.shared).config.processors in
    let ends = c.in_ok-links.ensures.ends m was.0.egress_packets was.1.egress_packets in
    (outlets_long _ m was.0.egress_packets _ ends ∙ (was.1.piping.links ∙ ap (λ (s : Shared). 2 * link_count s.config) (sym c.in_ok-shared.ensures)), (outlets_fresh _ 0 m was.0.egress_packets _ ends).1)

pub new-slow_path-requires-clause-free : goal.new-slow_path-requires-clause-free
new-slow_path-requires-clause-free g c =
    let was = c.requires.pipes in
    let m = (arc_value c.args.common.now.shared).config.processors in
    ap length (c.in_ok-free.ensures.ends m was.0.free was.1.free) ∙ (fresh_long _ m was.0.free ∙ (was.1.piping.free_links ∙ ap (λ (s : Shared). link_count s.config) (sym c.in_ok-shared.ensures)))

pub new-slow_path-requires-clause-share : goal.new-slow_path-requires-clause-share
new-slow_path-requires-clause-share g c = is_new _ c.args.share c.requires.share

pub returns : goal.returns
returns g c = λ p made own.
    let m = (arc_value c.args.common.now.shared).config.processors in
    let is = c.new-slow_path.ensures in
    let ends = c.in_ok-links.ensures.ends m p.egress_packets made.egress_packets in
    let taker = ap (λ a. a.taker) is ∙ (c.of-from.ensures ∙ own) in (
      record { piping = made.piping; packets = made.packets; requests = made.requests; egress_packets = c.in_ok-links.ensures.made m p.egress_packets made.egress_packets; free = c.in_ok-free.ensures.made m p.free made.free },
      record {
        config = ap (λ a. a.side.config) is ∙ ap (λ (s : Shared). s.config) c.in_ok-shared.ensures;
        taker = subst (λ (t : Taker (SlowPathRequest kinds)). IsTakerOf p.requests t) (sym taker) (refl, refl, refl);
        links = subst (λ xs. AreEndsOf m p.egress_packets (senders xs)) (sym (ap (λ a. a.side.links) is)) (outlets_of _ m p.egress_packets _ ends);
        fresh = subst (λ xs. AreFresh xs) (sym (ap (λ a. a.side.links) is)) (outlets_fresh _ 0 m p.egress_packets _ ends).1;
        free = ap (λ a. a.side.free) is ∙ c.in_ok-free.ensures.ends m p.free made.free;
        place = ap (λ a. a.side.share.place) is ∙ ap (λ (s : Held). s.place) c.requires.share;
      },
    )
