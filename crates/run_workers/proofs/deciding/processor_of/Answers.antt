use Rattle.std.proofs.Common.{◌*◌, ◌+◌, Some, length, refl, sym, ◌∙◌, ap, subst, arith}
use Rattle.std.specs.Arc.{arc_value}
use Rattle.ruled_pipe.specs.Pipe.{IsEndOf, IsTakerOf, one_made}
use Rattle.ruled_pipe.specs.Producer.{Sender}
use Rattle.ruled_pipe.specs.Consumer.{Taker}
use Rattle.run_ends.specs.Opened.{next_end}
use Rattle.run_ends.specs.Rows.{AreEndsOf}
use Rattle.order_laws.specs.Item.{Arrival}
use Rattle.order_laws.specs.Settled.{SlowPathRequest}
use Rattle.router_rules.specs.Links.{link_count}
use Rattle.router_rules.specs.Rules.{kinds}
use Rattle.router_rules.specs.declared.shared.Shared.{Shared}
use Rattle.worker_parts.specs.Outlets.{AreFresh, senders}
use Rattle.run_pipes.proofs.Fresh.{fresh_long, outlets_fresh, outlets_long, outlets_of}
use Rattle.run_pipes.proofs.OkLemmas.{of_ok}
use Rattle.run_pipes.proofs.PipesLemmas.{one_to_make}
use Rattle.packet_ledger.specs.Share.{Held}
use Rattle.packet_ledger.proofs.Closing.{is_new}
use Rattle.run_workers.proofs.deciding.processor_of.Goals as goal

pub producer-requires : goal.producer-requires
producer-requires g c =
    let was = c.requires.pipes in
    let own = one_to_make c.args.index was.0.requests c.args.pipes.now.requests was.1.requests (let lt = c.requires.index in let m = was.1.piping.requests in omega arith) in
    record { some = own.0; none_back = own.1 }

pub outlets-requires-clause-pipes : goal.outlets-requires-clause-pipes
outlets-requires-clause-pipes g c =
    let was = c.requires.pipes in
    (c.args.index, (arc_value c.args.common.now.shared).config.processors + 2, was.0.egress_packets, was.1.egress_packets, was.1.piping.egress_packets, (let lt = c.requires.index in omega arith))

pub outlets-requires-clause-each : goal.outlets-requires-clause-each
outlets-requires-clause-each g c = omega arith

pub next_producers-requires : goal.next_producers-requires
next_producers-requires g c =
    let was = c.requires.pipes in
    let config = (arc_value c.args.common.now.shared).config in
    (c.args.index, config.processors + 2 + link_count config, was.0.free, was.1.free, was.1.piping.free, (let lt = c.requires.index in omega arith))

pub of-from-requires-clause-fresh : goal.of-from-requires-clause-fresh
of-from-requires-clause-fresh g c = c.requires.taker.0

pub of-from-requires-clause-producers : goal.of-from-requires-clause-producers
of-from-requires-clause-producers g c = c.requires.taker.1 ∙ sym (c.link_count-producers.ensures.count ∙ ap (λ (s : Shared). link_count s.config) c.deref.ensures)

pub of-slow-requires : goal.of-slow-requires
of-slow-requires g c = ap (λ (s : Sender (SlowPathRequest kinds)). s.offers) c.in_ok-asking.ensures.0

pub new-processor-requires-clause-config : goal.new-processor-requires-clause-config
new-processor-requires-clause-config g c = c.requires.config ∙ ap (λ (s : Shared). Some s.config) (sym (of_ok _ c.try_clone-shared.result c.in_ok-shared.shared c.in_ok-shared.ensures.0 c.try_clone-shared.ensures))

pub new-processor-requires-clause-from : goal.new-processor-requires-clause-from
new-processor-requires-clause-from g c = ap (λ t. t.taken) c.of-from.ensures ∙ c.requires.taker.0

pub new-processor-requires-clause-links : goal.new-processor-requires-clause-links
new-processor-requires-clause-links g c =
    let was = c.requires.pipes in
    let own = of_ok _ c.try_clone-shared.result c.in_ok-shared.shared c.in_ok-shared.ensures.0 c.try_clone-shared.ensures in
    let ends = c.in_ok-links.ensures.ends c.args.index was.0.egress_packets was.1.egress_packets in
    (outlets_long _ c.args.index was.0.egress_packets _ ends ∙ (was.1.piping.links ∙ ap (λ (s : Shared). 2 * link_count s.config) (sym own)), (outlets_fresh _ 0 c.args.index was.0.egress_packets _ ends).1)

pub new-processor-requires-clause-slow : goal.new-processor-requires-clause-slow
new-processor-requires-clause-slow g c =
    let end = c.in_ok-asking.ensures.0 in
    let is = c.of-slow.ensures in
    (ap (λ o. o.ended) is, ap (λ o. o.sender.offers) is ∙ ap (λ (s : Sender (SlowPathRequest kinds)). s.offers) end, ap (λ o. o.sender.refusals) is ∙ ap (λ (s : Sender (SlowPathRequest kinds)). s.refusals) end, tt)

pub new-processor-requires-clause-free : goal.new-processor-requires-clause-free
new-processor-requires-clause-free g c =
    let was = c.requires.pipes in
    let own = of_ok _ c.try_clone-shared.result c.in_ok-shared.shared c.in_ok-shared.ensures.0 c.try_clone-shared.ensures in
    ap length (c.in_ok-free.ensures.ends c.args.index was.0.free was.1.free) ∙ (fresh_long _ c.args.index was.0.free ∙ (was.1.piping.free_links ∙ ap (λ (s : Shared). link_count s.config) (sym own)))

pub new-processor-requires-clause-share : goal.new-processor-requires-clause-share
new-processor-requires-clause-share g c = is_new _ c.args.share c.requires.share

pub returns : goal.returns
returns g c = λ p made.
    let i = c.args.index in
    let is = c.new-processor.ensures in
    let ends = c.in_ok-links.ensures.ends i p.egress_packets made.egress_packets in
    let end = ap (λ w. w.slow.sender) is ∙ (ap (λ o. o.sender) c.of-slow.ensures ∙ (c.in_ok-asking.ensures.0 ∙ ap next_end made.requests)) in (
      record {
        piping = made.piping;
        packets = made.packets;
        requests = c.in_ok-asking.ensures.1 ∙ ap one_made made.requests;
        egress_packets = c.in_ok-links.ensures.made i p.egress_packets made.egress_packets;
        free = c.in_ok-free.ensures.made i p.free made.free;
      },
      (λ own own_taker. record {
        config = ap (λ w. w.side.config) is ∙ ap (λ (s : Shared). s.config) (of_ok _ c.try_clone-shared.result c.in_ok-shared.shared c.in_ok-shared.ensures.0 c.try_clone-shared.ensures);
        index = ap (λ w. w.index) is;
        taker = subst (λ (t : Taker (Arrival kinds)). IsTakerOf own t) (sym (ap (λ w. w.taker) is ∙ c.of-from.ensures)) own_taker;
        slow = subst (λ (s : Sender (SlowPathRequest kinds)). IsEndOf p.requests i s) (sym end) (refl, refl, refl, refl);
        links = subst (λ xs. AreEndsOf i p.egress_packets (senders xs)) (sym (ap (λ w. w.side.links) is)) (outlets_of _ i p.egress_packets _ ends);
        fresh = subst (λ xs. AreFresh xs) (sym (ap (λ w. w.side.links) is)) (outlets_fresh _ 0 i p.egress_packets _ ends).1;
        free = ap (λ w. w.side.free) is ∙ c.in_ok-free.ensures.ends i p.free made.free;
        place = ap (λ w. w.side.share.place) is ∙ ap (λ (s : Held). s.place) c.requires.share;
      }),
    )
