use Rattle.worker_laws.proofs.Reasons.{gives_reasons}
use Rattle.worker_laws.proofs.laws.gives_reasons.Goals as goal

pub returns : goal.returns
returns g c = record { law = gives_reasons _ }
