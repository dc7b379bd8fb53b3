use Rattle.std.proofs.lemmas.Grind.{common_steps}
use Rattle.std.proofs.Common.{arith}
use Rattle.router_rules.proofs.ports.Ports.two_bands.Goals as goal

pub returns-then-at-self : goal.returns-then-at-self
returns-then-at-self c = grind (arith, common_steps)
