use Rattle.order_laws.proofs.Counted.{counts_once}
use Rattle.order_laws.proofs.laws.counts_once.Goals as goal

pub returns : goal.returns
returns g c = record { law = counts_once _ }
