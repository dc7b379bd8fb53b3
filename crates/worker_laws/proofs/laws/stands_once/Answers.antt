use Rattle.worker_laws.proofs.Places.{stands_each}
use Rattle.worker_laws.proofs.laws.stands_once.Goals as goal

pub returns : goal.returns
returns g c = record { law = stands_each _ }
