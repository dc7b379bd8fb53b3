use Rattle.path_authorisation.proofs.ExampleLemmas.{premise_met}
use Rattle.path_authorisation.proofs.laws.premise_is_met.Goals as goal

pub returns : goal.returns
returns c = premise_met
