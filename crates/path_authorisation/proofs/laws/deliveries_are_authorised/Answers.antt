use Rattle.path_authorisation.proofs.DeliveredLemmas.{deliveries_authorised}
use Rattle.path_authorisation.proofs.laws.deliveries_are_authorised.Goals as goal

pub returns : goal.returns
returns c = deliveries_authorised
