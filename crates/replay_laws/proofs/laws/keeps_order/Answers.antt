use Rattle.replay_laws.proofs.Order.{keeps_order}
use Rattle.replay_laws.proofs.laws.keeps_order.Goals as goal

pub returns : goal.returns
returns g c = record { law = keeps_order _ }
