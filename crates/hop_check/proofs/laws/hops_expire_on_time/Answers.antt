use Rattle.hop_check.proofs.ExactLemmas.{on_time}
use Rattle.hop_check.proofs.laws.hops_expire_on_time.Goals as goal

pub returns : goal.returns
returns c = on_time
