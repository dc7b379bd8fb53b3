use Rattle.std.proofs.lemmas.Grind.{common_steps}
use Rattle.std.proofs.Common.{arith, rules}
use Rattle.scion_header.proofs.extensions.skip_extension.Goals as goal

pub returns-clause-layer : goal.returns-clause-layer
returns-clause-layer c = grind (arith, common_steps)

pub returns-clause-inside : goal.returns-clause-inside
returns-clause-inside c = search rules
