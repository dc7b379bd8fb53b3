use Rattle.path_authorisation.proofs.ChainLemmas.{as_beaconed}
use Rattle.path_authorisation.proofs.laws.walks_go_as_beaconed.Goals as goal

pub returns : goal.returns
returns c = as_beaconed
