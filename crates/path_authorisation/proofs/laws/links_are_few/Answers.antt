use Rattle.path_authorisation.proofs.WalkLemmas.{few_links}
use Rattle.path_authorisation.proofs.laws.links_are_few.Goals as goal

pub returns : goal.returns
returns c = few_links
