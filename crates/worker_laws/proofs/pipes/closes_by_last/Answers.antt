use Rattle.worker_laws.proofs.Gathers.{closes_by_last}
use Rattle.worker_laws.proofs.pipes.closes_by_last.Goals as goal

pub returns : goal.returns
returns g c = record { law = closes_by_last }
