use Rattle.worker_laws.proofs.Gathers.{drains}
use Rattle.worker_laws.proofs.pipes.drains.Goals as goal

pub returns : goal.returns
returns g c = record { law = drains }
