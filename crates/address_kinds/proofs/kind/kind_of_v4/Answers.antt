use Rattle.std.proofs.Common.{arith}
use Rattle.std.proofs.lemmas.Grind.{common_steps}
use Rattle.address_kinds.proofs.kind.kind_of_v4.Goals as goal

pub returns-else-bytes-ge224 : goal.returns-else-bytes-ge224
returns-else-bytes-ge224 c = grind (arith, common_steps)
