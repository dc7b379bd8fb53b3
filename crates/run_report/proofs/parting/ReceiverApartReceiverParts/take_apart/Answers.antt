use Rattle.std.proofs.Common.{ℕ, List, [], ◌∷◌, ◌++◌, map, length, refl, sym, ◌∙◌, ap, subst, arith, vec_capacity}
use Rattle.order_laws.specs.Item.{Arrival}
use Rattle.ruled_pipe.specs.Producer.{Sender}
use Rattle.router_rules.specs.Rules.{kinds}
use Rattle.worker_receiver.specs.Receiving.{Receiving}
use Rattle.worker_order.specs.Returned.{AllAt}
use Rattle.worker_parts.specs.Outlets.{senders}
use Rattle.run_pipes.specs.Handing.{AreMarked}
use Rattle.run_pipes.specs.Pipes.{HaveAllBack, ReceiverRows}
use Rattle.run_ends.specs.Rows.{AreEndsOf}
use Rattle.run_report.specs.Parting.{HasReceiverEnds}
use Rattle.run_pipes.proofs.RestLemmas.{pushed_long}
use Rattle.run_report.proofs.PartLemmas.{grown, room_left}
use Rattle.run_report.proofs.parting.ReceiverApartReceiverParts.take_apart.Goals as goal

pub take_back-requires : goal.take_back-requires
take_back-requires g c =
    let fit = c.requires.1 in
    (fit.rows, fit.piping.packets, fit.back.packets, subst (λ (es : List (Sender (Arrival kinds))). AreEndsOf (length fit.rows) fit.piping.packets es) (sym (ap senders c.into_parts-source.ensures.parts.1)) fit.ends.0)

pub push_reserved-requires : goal.push_reserved-requires
push_reserved-requires g c = let r = c.requires.1.sources in omega arith

pub push_reserved-requires-2 : goal.push_reserved-requires-2
push_reserved-requires-2 g c = let r = c.requires.1.shares in omega arith

pub returns-clause-fits : goal.returns-clause-fits
returns-clause-fits g c = λ rest fit.
    let row = senders c.into_parts-source.result.processors.items in
    let read = c.push_reserved.ensures in
    let shared = c.push_reserved-2.ensures in
    let sources = c.push_reserved.new.self in
    let shares = c.push_reserved-2.new.self in
    record {
      piping = fit.piping;
      rows = fit.rows ++ row ∷ [];
      back = record { packets = c.take_back.ensures.back fit.rows fit.piping.packets fit.back.packets; requests = fit.back.requests; egress_packets = fit.back.egress_packets };
      ends = subst (λ (n : ℕ). AllAt (HasReceiverEnds fit.piping) n rest) (sym (pushed_long _ fit.rows _ row refl refl)) fit.ends.1;
      sources = room_left _ sources.items _ _ _ (vec_capacity sources) read.items read.capacity fit.sources;
      shares = room_left _ shares.items _ _ _ (vec_capacity shares) shared.items shared.capacity fit.shares;
    }

pub returns-clause-gave : goal.returns-clause-gave
returns-clause-gave g c = λ rest k p gave.
    let parts = c.into_parts-source.ensures.parts in
    let taken = c.take_back.ensures in
    let read = c.push_reserved.ensures in
    let shared = c.push_reserved-2.ensures in
    record {
      back = λ o rows was. subst (λ (ls : ReceiverRows). HaveAllBack ls [] [] o k) (grown rows _ _ (map (λ (r : Receiving _). senders r.side.processors) rest) _ _ refl (ap senders parts.1) refl)
          (gave.back o _ (record { packets = taken.back rows o.packets was.packets; requests = was.requests; egress_packets = was.egress_packets }));
      sources = grown _ c.push_reserved.new.self.items _ _ _ _ read.items parts.0 gave.sources;
      shares = grown _ c.push_reserved-2.new.self.items _ _ _ _ shared.items parts.3 gave.shares;
      room = gave.room ∙ shared.capacity;
      kept = ((c.into_parts-source.ensures.law, subst (λ xs. AreMarked xs) parts.1 taken.told, c.into_parts-source.ensures.quiet), gave.kept);
    }
