use Rattle.std.proofs.Common.{sym, subst}
use Rattle.worker_parts.specs.Outlets.{are_used}
use Rattle.worker_processor.specs.Answering.{Answering, IsDone}
use Rattle.worker_processor.proofs.AnsweringLemmas.{keeps_ending}
use Rattle.worker_processor.proofs.slow_path.SlowPath.end.Goals as goal

pub invariant_of-self : goal.invariant_of-self
invariant_of-self g c =
    let s = c.self.inside in
    let done = subst (λ (a : Answering). IsDone a) (sym c.self.view_is) c.requires in
    keeps_ending g.N.RunBrand.config s.from s.exits c.self.invariant (are_used s.exits.config) c.end.result c.end.new.self done c.end.ensures.tried c.end.ensures.same
