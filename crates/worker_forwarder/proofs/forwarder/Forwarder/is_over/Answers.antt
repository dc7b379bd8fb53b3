use Rattle.std.proofs.Common.{rules}
use Rattle.worker_forwarder.proofs.forwarder.Forwarder.is_over.Goals as goal

pub returns-then-not-is_over : goal.returns-then-not-is_over
returns-then-not-is_over g c = search rules

pub returns : goal.returns
returns g c = search rules
