use Rattle.path_authorisation.proofs.OneHopLemmas.{cross_one}
use Rattle.path_authorisation.proofs.laws.one_hops_cross_one_link.Goals as goal

pub returns : goal.returns
returns c = cross_one
