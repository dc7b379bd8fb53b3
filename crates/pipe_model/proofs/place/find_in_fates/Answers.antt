use Rattle.std.proofs.lemmas.Grind.{common_steps}
use Rattle.std.proofs.Common.{arith}
use Rattle.pipe_model.proofs.place.find_in_fates.Goals as goal

pub returns-then-number : goal.returns-then-number
returns-then-number c = grind (arith, common_steps)
