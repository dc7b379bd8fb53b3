use Rattle.worker_laws.proofs.Settling.{ends}
use Rattle.worker_laws.proofs.laws.ends.Goals as goal

pub returns : goal.returns
returns g c = record { law = ends _ }
