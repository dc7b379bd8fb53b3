use Rattle.order_laws.proofs.SettledOrder.{settles}
use Rattle.order_laws.proofs.laws.settles_in_order.Goals as goal

pub returns : goal.returns
returns g c = record { law = settles _ }
