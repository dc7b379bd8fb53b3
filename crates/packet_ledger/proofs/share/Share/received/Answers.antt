use Rattle.std.proofs.Common.{rules}
use Rattle.packet_ledger.proofs.share.Share.received.Goals as goal

pub returns : goal.returns
returns g c = search rules

pub invariant_of-self : goal.invariant_of-self
invariant_of-self g c = search rules
