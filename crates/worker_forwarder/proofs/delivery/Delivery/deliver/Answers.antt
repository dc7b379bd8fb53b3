use Rattle.std.proofs.Common.{rules}
use Rattle.worker_forwarder.proofs.delivery.Delivery.deliver.Goals as goal

pub returns-then-shut : goal.returns-then-shut
returns-then-shut g c = search rules
