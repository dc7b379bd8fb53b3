use Rattle.std.proofs.lemmas.Grind.{common_steps}
use Rattle.std.proofs.Common.{arith}
use Rattle.text_values.proofs.shown.push_underlay.Goals as goal

pub returns : goal.returns
returns c = grind (arith, common_steps)
