use Rattle.replay_laws.proofs.Reach.{reaches_on}
use Rattle.replay_laws.proofs.laws.reaches_on.Goals as goal

pub returns : goal.returns
returns g c = record { law = reaches_on _ }
