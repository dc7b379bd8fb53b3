use Rattle.net_laws.proofs.CarryLemmas.{carried_to_one}
use Rattle.net_laws.proofs.laws.carried_to_one.Goals as goal

pub returns : goal.returns
returns c = carried_to_one
