use Rattle.std.proofs.Common.{rules}
use Rattle.worker_forwarder.proofs.delivery.count.Goals as goal

pub returns-then-answer : goal.returns-then-answer
returns-then-answer g c = search rules

pub returns-else-answer : goal.returns-else-answer
returns-else-answer g c = search rules
