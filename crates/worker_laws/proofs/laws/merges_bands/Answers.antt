use Rattle.worker_laws.proofs.Reasons.{merges_bands}
use Rattle.worker_laws.proofs.laws.merges_bands.Goals as goal

pub returns : goal.returns
returns g c = record { law = merges_bands _ }
