use Rattle.net_laws.proofs.MadeLemmas.{hops_hold}
use Rattle.net_laws.proofs.laws.beaconed_hops_hold.Goals as goal

pub returns : goal.returns
returns c = hops_hold
