use Rattle.std.proofs.Common.{ℕ, List, [], ◌∷◌, ◌++◌, map, length, refl, sym, ◌∙◌, ap, subst, arith, vec_capacity}
use Rattle.order_laws.specs.Item.{Outgoing}
use Rattle.order_laws.specs.Settled.{SlowPathRequest}
use Rattle.ruled_pipe.specs.Pipe.{IsEndOf, Keeping, took_back}
use Rattle.ruled_pipe.specs.Producer.{Sender}
use Rattle.router_rules.specs.Rules.{kinds}
use Rattle.worker_processor.specs.Working.{Working}
use Rattle.worker_order.specs.Returned.{AllAt}
use Rattle.worker_parts.specs.Outlet.{IsMarked, Offering}
use Rattle.worker_parts.specs.Outlets.{senders}
use Rattle.run_pipes.specs.Handing.{AreMarked}
use Rattle.run_pipes.specs.Pipes.{HaveAllBack, LinkRows, RequestRow}
use Rattle.run_pipes.proofs.PipesLemmas.{request_next}
use Rattle.run_ends.specs.Rows.{AreEndsOf}
use Rattle.run_report.specs.Parting.{HasProcessorEnds}
use Rattle.run_pipes.proofs.RestLemmas.{pushed_long}
use Rattle.run_report.proofs.PartLemmas.{grown, room_left}
use Rattle.run_report.proofs.parting.ProcessorApartProcessorParts.take_apart.Goals as goal

pub push_reserved-requires : goal.push_reserved-requires
push_reserved-requires g c = let r = c.requires.1.takers in omega arith

pub absorb-requires : goal.absorb-requires
absorb-requires g c =
    let fit = c.requires.1 in
    let slow = c.into_producer.ensures.same ∙ ap (λ (o : Offering (SlowPathRequest kinds)). o.sender) c.into_parts-from.ensures.parts.2 in
    request_next _ fit.requests fit.piping.requests _ c.into_producer.result fit.back.requests (subst (λ (s : Sender (SlowPathRequest kinds)). IsEndOf fit.piping.requests (length fit.links) s) (sym slow) fit.ends.0.1) fit.long

pub take_back-requires : goal.take_back-requires
take_back-requires g c =
    let fit = c.requires.1 in
    (fit.links, fit.piping.egress_packets, fit.back.egress_packets, subst (λ (es : List (Sender (Outgoing kinds))). AreEndsOf (length fit.links) fit.piping.egress_packets es) (sym (ap senders c.into_parts-from.ensures.parts.1)) fit.ends.0.0)

pub push_reserved-requires-2 : goal.push_reserved-requires-2
push_reserved-requires-2 g c = let r = c.requires.1.shares in omega arith

pub returns-clause-fits : goal.returns-clause-fits
returns-clause-fits g c = λ rest fit.
    let asked = c.into_producer.result in
    let row = senders c.into_parts-from.result.links.items in
    let took = c.push_reserved.ensures in
    let shared = c.push_reserved-2.ensures in
    let takers = c.push_reserved.new.self in
    let shares = c.push_reserved-2.new.self in
    let more = pushed_long _ fit.links _ row refl refl in
    record {
      piping = fit.piping;
      rows = fit.rows;
      requests = fit.requests ++ asked ∷ [];
      links = fit.links ++ row ∷ [];
      long = pushed_long _ fit.requests _ asked refl fit.long ∙ sym more;
      back = record {
        packets = fit.back.packets;
        requests = c.absorb.ensures ∙ ap (λ (o : Keeping (SlowPathRequest kinds)). took_back o asked) fit.back.requests;
        egress_packets = c.take_back.ensures.back fit.links fit.piping.egress_packets fit.back.egress_packets;
      };
      ends = subst (λ (n : ℕ). AllAt (HasProcessorEnds fit.piping) n rest) (sym more) fit.ends.1;
      takers = room_left _ takers.items _ _ _ (vec_capacity takers) took.items took.capacity fit.takers;
      shares = room_left _ shares.items _ _ _ (vec_capacity shares) shared.items shared.capacity fit.shares;
    }

pub returns-clause-gave : goal.returns-clause-gave
returns-clause-gave g c = λ rest k p gave.
    let parts = c.into_parts-from.ensures.parts in
    let asked = c.into_producer.ensures in
    let took = c.push_reserved.ensures in
    let shared = c.push_reserved-2.ensures in
    record {
      back = λ o rows requests links was.
          subst (λ (m : RequestRow). HaveAllBack rows m (links ++ map (λ (w : Working _). senders w.side.links) (c.args.self ∷ rest)) o k)
          (grown requests _ _ (map (λ (w : Working _). w.slow.sender) rest) _ _ refl (asked.same ∙ ap (λ (s : Offering (SlowPathRequest kinds)). s.sender) parts.2) refl)
          (subst (λ (ls : LinkRows). HaveAllBack rows ((requests ++ c.into_producer.result ∷ []) ++ map (λ (w : Working _). w.slow.sender) rest) ls o k) (grown links _ _ (map (λ (w : Working _). senders w.side.links) rest) _ _ refl (ap senders parts.1) refl)
          (gave.back o rows _ _ (record {
            packets = was.packets;
            requests = c.absorb.ensures ∙ ap (λ (x : Keeping (SlowPathRequest kinds)). took_back x c.into_producer.result) was.requests;
            egress_packets = c.take_back.ensures.back links o.egress_packets was.egress_packets;
          })));
      takers = grown _ c.push_reserved.new.self.items _ _ _ _ took.items (c.into_consumer.ensures ∙ parts.0) gave.takers;
      shares = grown _ c.push_reserved-2.new.self.items _ _ _ _ shared.items parts.4 gave.shares;
      room = gave.room ∙ shared.capacity;
      kept = ((c.into_parts-from.ensures.law, subst (λ xs. AreMarked xs) parts.1 c.take_back.ensures.told, subst (λ (s : Offering _). IsMarked s.sender s.ended) parts.2 (subst (λ (s : Sender _). IsMarked s c.into_parts-from.result.slow.ended) asked.same asked.marks)), gave.kept);
    }
