use Rattle.std.proofs.Common.{rules}
use Rattle.worker_forwarder.proofs.forwarder.ForwarderTurnsBook.awaits_push.Goals as goal

pub returns : goal.returns
returns g c = search rules
