use Rattle.std.proofs.Common.{refl}
use Rattle.router_rules.proofs.laws.examples.Goals as goal

pub returns : goal.returns
returns c = λ r source. record { same = refl; other = refl; urgent = refl; usual = refl }
