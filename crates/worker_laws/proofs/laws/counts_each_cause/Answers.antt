use Rattle.worker_laws.proofs.Causes.{counts_each_cause}
use Rattle.worker_laws.proofs.laws.counts_each_cause.Goals as goal

pub returns : goal.returns
returns g c = record { law = counts_each_cause _ }
