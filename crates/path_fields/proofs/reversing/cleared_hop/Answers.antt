use Rattle.std.proofs.Common.{rules}
use Rattle.path_fields.proofs.reversing.cleared_hop.Goals as goal

pub returns : goal.returns
returns c = search rules
