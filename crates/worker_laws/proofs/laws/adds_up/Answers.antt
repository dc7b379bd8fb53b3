use Rattle.worker_laws.proofs.Sums.{adds_up}
use Rattle.worker_laws.proofs.laws.adds_up.Goals as goal

pub returns : goal.returns
returns g c = record { law = adds_up _ }
