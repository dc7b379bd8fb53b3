use Rattle.std.proofs.Common.{rules}
use Rattle.flow_key.proofs.flow.is_high.Goals as goal

pub returns : goal.returns
returns c = search rules
