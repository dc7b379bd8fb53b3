use Rattle.std.proofs.Common.{rules}
use Rattle.path_fields.proofs.lengths.first_hop.Goals as goal

pub returns-in_default : goal.returns-in_default
returns-in_default c = search rules
