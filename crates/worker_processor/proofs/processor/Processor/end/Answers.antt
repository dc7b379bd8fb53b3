use Rattle.std.proofs.Common.{rules, sym, subst}
use Rattle.worker_parts.specs.Outlets.{are_used}
use Rattle.worker_processor.specs.Working.{Working, IsDone}
use Rattle.worker_processor.proofs.WorkingLemmas.{keeps_ending}
use Rattle.worker_processor.proofs.processor.Processor.end.Goals as goal

pub invariant_of-self : goal.invariant_of-self
invariant_of-self g c =
    let s = c.self.inside in
    let done = subst (λ (w : Working g.row.G.Denot). IsDone w) (sym c.self.view_is) c.requires in
    keeps_ending g.N.RunBrand.config s.from s.hand s.slow s.exits c.self.invariant (are_used s.exits.config) c.end-links.result c.end-slow.new.self c.end-links.new.self done c.end-slow.ensures.tried c.end-links.ensures.tried c.end-links.ensures.same

pub returns : goal.returns
returns g c = search rules
