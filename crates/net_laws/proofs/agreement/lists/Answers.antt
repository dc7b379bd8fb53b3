use Rattle.std.proofs.Common.{rules}
use Rattle.net_laws.proofs.agreement.lists.Goals as goal

pub returns-then-eq : goal.returns-then-eq
returns-then-eq c = search rules
