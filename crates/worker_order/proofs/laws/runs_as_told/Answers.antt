use Rattle.worker_order.proofs.Returned.{runs_as_told}
use Rattle.worker_order.proofs.laws.runs_as_told.Goals as goal

pub returns : goal.returns
returns g c = runs_as_told c.rules_are_lawful.ensures c.links_stand_in_order.ensures c.causes_are_apart.ensures
