use Rattle.std.proofs.Common.{rules}
use Rattle.packet_ledger.proofs.share.Share.answered.Goals as goal

pub invariant_of-self : goal.invariant_of-self
invariant_of-self g c = search rules

pub returns : goal.returns
returns g c = search rules
