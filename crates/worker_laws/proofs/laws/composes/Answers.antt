use Rattle.worker_laws.proofs.Composed.{composes}
use Rattle.worker_laws.proofs.laws.composes.Goals as goal

pub returns : goal.returns
returns g c = record { law = composes _ }
