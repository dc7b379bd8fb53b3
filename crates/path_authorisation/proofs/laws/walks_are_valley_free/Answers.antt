use Rattle.path_authorisation.proofs.WayLemmas.{valley_free}
use Rattle.path_authorisation.proofs.laws.walks_are_valley_free.Goals as goal

pub returns : goal.returns
returns c = valley_free
