use Rattle.std.proofs.Common.{◌≡◌, ◌+◌, ◌-◌, ◌^◌, ◌<◌, arith, inr, nat_eq, take, true, refl, sym, ap, subst, ◌∙◌, rules}
use Rattle.packet_ledger.specs.Share.{HasRoom}
use Rattle.worker_order.specs.Heard.{Gave, WasQuiet, HadFailed, WasAtEnd, arrival}
use Rattle.worker_laws.specs.Forwards.{AddsTo}
use Rattle.worker_parts.specs.Heard.{failures_of, heard}
use Rattle.worker_parts.specs.declared.source.NextLen.{NextLen}
use Rattle.worker_receiver.specs.Intake.{Intake, PassedIn}
use Rattle.worker_receiver.specs.Receiving.{Receiving, Received, last_number}
use Rattle.worker_parts.specs.declared.turn.Turn.TheVariants.{Did}
use Rattle.worker_parts.proofs.RoomLemmas.{may_raise}
use Rattle.worker_receiver.proofs.ReceivingLemmas.{keeps_datagram, keeps_answer, keeps_ending}
use Rattle.worker_receiver.proofs.receiver.ReceiverTurnsBook.turn.Goals as goal

pub invariant_of-self : goal.invariant_of-self
invariant_of-self g c =
    let s = c.self.inside in
    keeps_ending (g.S.Source.told s.source) s.number s.ended c.end.result s.intake.side c.end.new.self.side c.if-self.true c.end.ensures.tried c.end.ensures.same c.self.invariant

pub pass_in-requires-clause-room : goal.pass_in-requires-clause-room
pass_in-requires-clause-room g c =
    may_raise c.read.new.self.side.share.counts (subst (λ (i : Intake). HasRoom i.share.counts) (ap (λ (r : Receiving g.row.S.Denot). r.side) (sym c.self.view_is) ∙ sym c.read.ensures.side) c.requires)

pub invariant_of-self-in-Datagram : goal.invariant_of-self-in-Datagram
invariant_of-self-in-Datagram g c =
    let s = c.self.inside in
    let bytes = take c.in-Datagram.len c.read.new.self.room in
    let adds : AddsTo (g.S.Source.told s.source) (Gave c.in-Datagram.from c.in-Datagram.now bytes) (g.S.Source.told c.read.new.source) =
    subst (λ (n : NextLen). AddsTo (g.S.Source.told s.source) (heard c.read.new.self.room n) (g.S.Source.told c.read.new.source)) c.in-Datagram.is c.read.ensures.told in
    keeps_datagram (g.S.Source.told s.source) (g.S.Source.told c.read.new.source) s.number s.ended s.intake.side c.read.new.self.side c.pass_in.new.self.side c.in-Datagram.from c.in-Datagram.now bytes c.if-self.false c.read.ensures.side adds c.pass_in.ensures.some c.pass_in.ensures.passed c.self.invariant

pub invariant_of-self-in-Quiet : goal.invariant_of-self-in-Quiet
invariant_of-self-in-Quiet g c =
    let s = c.self.inside in
    let adds = subst (λ (n : NextLen). AddsTo (g.S.Source.told s.source) (heard c.read.new.self.room n) (g.S.Source.told c.read.new.source)) c.in-Quiet.is c.read.ensures.told in
    keeps_answer (g.S.Source.told s.source) (g.S.Source.told c.read.new.source) s.number s.ended c.eq-stopping.result s.intake.side c.read.new.self.side WasQuiet (λ n. refl) refl c.if-self.false c.read.ensures.side adds c.self.invariant

pub invariant_of-self-in-Failed : goal.invariant_of-self-in-Failed
invariant_of-self-in-Failed g c =
    let s = c.self.inside in
    let adds = subst (λ (n : NextLen). AddsTo (g.S.Source.told s.source) (heard c.read.new.self.room n) (g.S.Source.told c.read.new.source)) c.in-Failed.is c.read.ensures.told in
    keeps_answer (g.S.Source.told s.source) (g.S.Source.told c.read.new.source) s.number s.ended c.eq-stopping.result s.intake.side c.read.new.self.side HadFailed (λ n. refl) refl c.if-self.false c.read.ensures.side adds c.self.invariant

pub invariant_of-self-in-End : goal.invariant_of-self-in-End
invariant_of-self-in-End g c =
    let s = c.self.inside in
    let adds = subst (λ (n : NextLen). AddsTo (g.S.Source.told s.source) (heard c.read.new.self.room n) (g.S.Source.told c.read.new.source)) c.in-End.is c.read.ensures.told in
    keeps_answer (g.S.Source.told s.source) (g.S.Source.told c.read.new.source) s.number s.ended true s.intake.side c.read.new.self.side WasAtEnd (λ n. refl) refl c.if-self.false c.read.ensures.side adds c.self.invariant

pub returns-in-Datagram : goal.returns-in-Datagram
returns-in-Datagram g c =
    let s = c.self.inside in
    let T = g.S.Source.told in
    let F = g.S.Source.failed in
    let from = c.in-Datagram.from in
    let now = c.in-Datagram.now in
    let bytes = take c.in-Datagram.len c.read.new.self.room in
    let u : Receiving g.row.S.Denot = record { number = s.number; source = s.source; ended = s.ended; side = s.intake.side } in
    let new : Receiving g.row.S.Denot = record { number = s.number + 1; source = c.read.new.source; ended = nat_eq (s.number + 1) last_number; side = c.pass_in.new.self.side } in
    let passed = subst (λ (i : Intake). PassedIn (arrival i.link i.interface (s.number + 1) from now bytes) i c.pass_in.new.self.side) c.read.ensures.side c.pass_in.ensures.passed in
    let adds : AddsTo (T s.source) (Gave from now bytes) (T c.read.new.source) = subst (λ (n : NextLen). AddsTo (T s.source) (heard c.read.new.self.room n) (T c.read.new.source)) c.in-Datagram.is c.read.ensures.told in
    let failed : F c.read.new.source ≡ F s.source + 0 = subst (λ (n : NextLen). F c.read.new.source ≡ F s.source + failures_of n) c.in-Datagram.is c.read.ensures.failed in
    let few : F s.source < 2 ^ 64 - 1 = let r = c.failures.ensures in let n = c.if-failures.false in let t = c.failures.type_inv in grind arith in
    let is : Received T F g.S.Source.same Did u new = inr (inr (c.if-self.false, (Gave from now bytes, (few, failed, adds, c.read.ensures.device), (refl, refl, refl, passed)))) in
    subst (λ (v : Receiving g.row.S.Denot). Received T F g.S.Source.same Did v new) c.self.view_is is

pub returns-then-self : goal.returns-then-self
returns-then-self g c = search rules
