use Rattle.std.proofs.Common.{refl, ◌∙◌, ap, arith, vec_capacity}
use Rattle.packet_ledger.specs.Share.{forwarded}
use Rattle.run_pipes.proofs.RestLemmas.{pushed_long}
use Rattle.run_report.proofs.PartLemmas.{grown, room_left}
use Rattle.run_report.proofs.parting.ForwarderApartForwarderParts.take_apart.Goals as goal

pub push_reserved-requires : goal.push_reserved-requires
push_reserved-requires g c = let r = c.requires.1.takers in omega arith

pub push_reserved-requires-2 : goal.push_reserved-requires-2
push_reserved-requires-2 g c = let r = c.requires.1.takers in let a = pushed_long _ _ c.push_reserved.new.self.items _ c.push_reserved.ensures.items refl in let b = c.push_reserved.ensures.capacity in omega arith

pub push_reserved-requires-3 : goal.push_reserved-requires-3
push_reserved-requires-3 g c = let r = c.requires.1.sinks in omega arith

pub push_reserved-requires-4 : goal.push_reserved-requires-4
push_reserved-requires-4 g c = let r = c.requires.1.sent in omega arith

pub push_reserved-requires-5 : goal.push_reserved-requires-5
push_reserved-requires-5 g c = let r = c.requires.1.shares in omega arith

pub returns-clause-fits : goal.returns-clause-fits
returns-clause-fits g c = λ rest fit.
    let first = c.push_reserved.ensures in
    let second = c.push_reserved-2.ensures in
    let wrote = c.push_reserved-3.ensures in
    let counted = c.push_reserved-4.ensures in
    let shared = c.push_reserved-5.ensures in
    let sinks = c.push_reserved-3.new.self in
    let sent = c.push_reserved-4.new.self in
    let shares = c.push_reserved-5.new.self in
    record {
      takers = (
          let a = pushed_long _ _ c.push_reserved.new.self.items _ first.items refl in
          let b = pushed_long _ _ c.push_reserved-2.new.self.items _ second.items refl in
          let d = second.capacity ∙ first.capacity in
          let r = fit.takers in
          omega arith
          );
      sinks = room_left _ sinks.items _ _ _ (vec_capacity sinks) wrote.items wrote.capacity fit.sinks;
      sent = room_left _ sent.items _ _ _ (vec_capacity sent) counted.items counted.capacity fit.sent;
      shares = room_left _ shares.items _ _ _ (vec_capacity shares) shared.items shared.capacity fit.shares;
    }

pub returns-clause-gave : goal.returns-clause-gave
returns-clause-gave g c = λ rest k p gave.
    let parts = c.into_parts-sink.ensures.parts in
    let low = c.push_reserved.new.self.items in
    record {
      back = gave.back;
      takers = grown _ low _ _ _ _ c.push_reserved.ensures.items parts.1 (grown low c.push_reserved-2.new.self.items _ _ _ _ c.push_reserved-2.ensures.items parts.2 gave.takers);
      sinks = grown _ c.push_reserved-3.new.self.items _ _ _ _ c.push_reserved-3.ensures.items parts.0 gave.sinks;
      sent = grown _ c.push_reserved-4.new.self.items _ _ _ _ c.push_reserved-4.ensures.items (c.forwarded.ensures ∙ ap forwarded parts.4) gave.sent;
      shares = grown _ c.push_reserved-5.new.self.items _ _ _ _ c.push_reserved-5.ensures.items parts.4 gave.shares;
      kept = (c.into_parts-sink.ensures.law, gave.kept);
    }
