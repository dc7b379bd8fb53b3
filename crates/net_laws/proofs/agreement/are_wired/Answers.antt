use Rattle.std.proofs.Common.{rules}
use Rattle.net_laws.proofs.agreement.are_wired.Goals as goal

pub returns-then-names_end : goal.returns-then-names_end
returns-then-names_end c = search rules
