use Rattle.std.proofs.Common.{rules}
use Rattle.config_warnings.proofs.warnings.add_of_neighbor.Goals as goal

pub returns : goal.returns
returns c = search rules
