use Rattle.std.proofs.Common.{rules}
use Rattle.hop_check.proofs.mac.chain.Goals as goal

pub returns : goal.returns
returns c = search rules
