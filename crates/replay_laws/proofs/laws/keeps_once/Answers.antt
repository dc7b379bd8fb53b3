use Rattle.replay_laws.proofs.Once.{keeps_once}
use Rattle.replay_laws.proofs.laws.keeps_once.Goals as goal

pub returns : goal.returns
returns g c = record { law = keeps_once _ }
