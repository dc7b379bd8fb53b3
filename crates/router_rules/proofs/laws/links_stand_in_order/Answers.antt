use Rattle.router_rules.proofs.LinkLemmas.{in_order}
use Rattle.router_rules.proofs.laws.links_stand_in_order.Goals as goal

pub returns : goal.returns
returns c = in_order
