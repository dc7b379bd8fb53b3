use Rattle.std.proofs.Common.{rules, sym, subst, ◌∙◌, Option}
use Rattle.order_laws.specs.Item.{Arrival}
use Rattle.router_rules.specs.Rules.{kinds}
use Rattle.packet_ledger.specs.Share.{HasRoom}
use Rattle.worker_processor.specs.Working.{KeepsWorking, Working}
use Rattle.worker_parts.proofs.RoomLemmas.{may_raise}
use Rattle.worker_processor.proofs.WorkingLemmas.{keeps_passed}
use Rattle.worker_processor.proofs.processor.Processor.work.Goals as goal

pub pass_on-requires-clause-room : goal.pass_on-requires-clause-room
pass_on-requires-clause-room g c = may_raise c.self.inside.exits.share.counts (subst (λ (w : Working g.row.G.Denot). HasRoom w.side.share.counts) (sym c.self.view_is) c.requires.room)

pub invariant_of-self-2 : goal.invariant_of-self-2
invariant_of-self-2 g c =
    let s = c.self.inside in
    let held = sym c.take.ensures.value ∙ c.in-Some.is in
    let kept = keeps_passed g.N.RunBrand.config s.from s.hand s.slow s.exits c.self.invariant c.in-Some.packet c.pass_on.new.slow c.pass_on.new.self held c.pass_on.ensures.some c.pass_on.ensures.passed in
    subst (λ (h : Option (Arrival kinds)). KeepsWorking g.N.RunBrand.config s.from h c.pass_on.new.slow c.pass_on.new.self) (sym c.take.ensures.after) kept

pub returns : goal.returns
returns g c = search rules
