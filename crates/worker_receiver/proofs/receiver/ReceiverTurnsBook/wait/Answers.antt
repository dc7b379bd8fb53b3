use Rattle.std.proofs.Common.{rules}
use Rattle.worker_receiver.proofs.receiver.ReceiverTurnsBook.wait.Goals as goal

pub invariant_of-self : goal.invariant_of-self
invariant_of-self g c = search rules

pub returns : goal.returns
returns g c = search rules

pub returns-then-self : goal.returns-then-self
returns-then-self g c = search rules
