use Rattle.std.proofs.Common.{rules}
use Rattle.flow_key.proofs.hash.fnv1a.Goals as goal

pub returns : goal.returns
returns c = search rules
