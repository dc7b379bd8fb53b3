use Rattle.std.proofs.Common.{rules}
use Rattle.flow_key.proofs.flow.flow_of.Goals as goal

pub returns : goal.returns
returns c = search rules
