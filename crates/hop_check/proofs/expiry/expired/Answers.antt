use Rattle.std.proofs.Common.{rules}
use Rattle.hop_check.proofs.expiry.expired.Goals as goal

pub returns : goal.returns
returns c = search rules
