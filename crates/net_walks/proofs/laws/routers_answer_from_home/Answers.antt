use Rattle.net_walks.proofs.HomeLemmas.{from_home}
use Rattle.net_walks.proofs.laws.routers_answer_from_home.Goals as goal

pub returns : goal.returns
returns c = from_home
