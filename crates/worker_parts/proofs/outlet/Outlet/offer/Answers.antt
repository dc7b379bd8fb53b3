use Rattle.std.proofs.Common.{◌∙◌, ap}
use Rattle.worker_parts.specs.Outlet.{Offering}
use Rattle.worker_parts.proofs.Marks.{marked_either}
use Rattle.worker_parts.proofs.outlet.Outlet.offer.Goals as goal

pub invariant_of-self : goal.invariant_of-self
invariant_of-self g c =
    marked_either c.offer-answer.result c.self.inside.producer c.offer-answer.new.self c.args.item c.self.inside.ended (ap (λ (o : Offering g.row.T.Denot). o.ended) c.self.view_is ∙ c.requires) c.self.invariant c.offer-answer.ensures.step
