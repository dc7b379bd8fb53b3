use Rattle.replay_laws.proofs.Begins.{begins}
use Rattle.replay_laws.proofs.laws.begins.Goals as goal

pub returns : goal.returns
returns g c = record { law = begins _ }
