use Rattle.std.proofs.Common.{Some, refl, sym, ap, subst, ◌∙◌, rules}
use Rattle.std.specs.Arc.{arc_value}
use Rattle.order_laws.specs.Item.{Arrival}
use Rattle.router_rules.specs.Rules.{kinds}
use Rattle.ruled_pipe.specs.Consumer.{Taker, took}
use Rattle.ruled_pipe.specs.Producer.{entry}
use Rattle.ruled_pipe.specs.declared.entry.Load.{Load}
use Rattle.worker_processor.specs.Working.{KeepsWorking, Worked, Working, WorksFor, with_taker}
use Rattle.worker_processor.proofs.WorkingLemmas.{keeps_taken, nobody, taken_worked}
use Rattle.worker_processor.proofs.processor.ProcessorTurnsBook.turn.Goals as goal

pub invariant_of-self-in-Some-Payload : goal.invariant_of-self-in-Some-Payload
invariant_of-self-in-Some-Payload g c =
    let s = c.self.inside in
    let e = c.in-Some-Payload.ensures in
    let free = nobody s.hand (sym c.is_some.ensures ∙ c.if-is_some.false) in
    let kept = keeps_taken g.N.RunBrand.config s.from s.hand s.slow s.exits c.self.invariant e.0 c.in-Some-Payload.packet free (c.if-is_done.ensures.left refl) in
    let is = e.2 ∙ ap (λ (l : Load (Arrival kinds)). took s.from (entry e.0 l)) c.in-Some-Payload.field-0-is in
    subst (λ (t : Taker (Arrival kinds)). KeepsWorking g.N.RunBrand.config t (Some c.in-Some-Payload.packet) s.slow s.exits) (sym is) kept

pub returns-in-Some-Marked : goal.returns-in-Some-Marked
returns-in-Some-Marked g c = search rules

pub returns-in-None : goal.returns-in-None
returns-in-None g c = search rules

pub returns-in-Some-Payload : goal.returns-in-Some-Payload
returns-in-Some-Payload g c =
    let s = c.self.inside in
    let e = c.in-Some-Payload.ensures in
    let x = c.in-Some-Payload.packet in
    let turn = c.work-in-Some-Payload.result in
    let new = c.work-in-Some-Payload.new.self in
    let answers = g.G.Gate.answers in
    let old : Working g.row.G.Denot = record { gate = arc_value s.gate; index = s.index; taker = s.from; hand = s.hand; slow = s.slow; side = s.exits } in
    let free = nobody s.hand (sym c.is_some.ensures ∙ c.if-is_some.false) in
    let is = e.2 ∙ ap (λ (l : Load (Arrival kinds)). took s.from (entry e.0 l)) c.in-Some-Payload.field-0-is in
    let worked = subst (λ (t : Taker (Arrival kinds)). WorksFor answers turn (with_taker t (Some x) old) new) is c.work-in-Some-Payload.ensures in
    subst (λ (w : Working g.row.G.Denot). Worked answers turn w new) c.self.view_is (taken_worked answers turn old new e.0 x free (c.if-is_done.ensures.left refl) worked)
