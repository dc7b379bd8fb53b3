use Rattle.std.proofs.Common.{rules}
use Rattle.try_net.proofs.are_whole.Goals as goal

pub returns : goal.returns
returns c = search rules
