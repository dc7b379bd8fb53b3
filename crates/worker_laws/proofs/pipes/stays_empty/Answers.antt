use Rattle.worker_laws.proofs.Gathers.{stays_empty}
use Rattle.worker_laws.proofs.pipes.stays_empty.Goals as goal

pub returns : goal.returns
returns g c = record { law = stays_empty }
