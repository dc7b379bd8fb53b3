use Rattle.worker_order.proofs.Totals.{shares_add_up}
use Rattle.worker_order.proofs.laws.shares_add_up.Goals as goal

pub returns : goal.returns
returns c = shares_add_up
