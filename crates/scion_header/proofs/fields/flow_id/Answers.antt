use Rattle.std.proofs.lemmas.Grind.{common_steps}
use Rattle.std.proofs.Common.{arith}
use Rattle.scion_header.proofs.fields.flow_id.Goals as goal

pub returns : goal.returns
returns c = grind (arith, common_steps)
