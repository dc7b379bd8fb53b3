use Rattle.std.proofs.Common.{refl}
use Rattle.order_laws.proofs.Examples.{lawful}
use Rattle.order_laws.proofs.laws.examples.Goals as goal

pub returns-clause-lawful : goal.returns-clause-lawful
returns-clause-lawful c = lawful

pub returns-clause-homes : goal.returns-clause-homes
returns-clause-homes c = (refl, refl, refl, refl, refl, refl)

pub returns-clause-ends : goal.returns-clause-ends
returns-clause-ends c = (refl, refl, refl, refl)
