use Rattle.std.proofs.lemmas.Grind.{common_steps}
use Rattle.std.proofs.Common.{arith}
use Rattle.path_fields.proofs.meta.read_meta.Goals as goal

pub returns-clause-reserved : goal.returns-clause-reserved
returns-clause-reserved c = grind (arith, common_steps)
