use Rattle.std.proofs.Common.{rules}
use Rattle.net_laws.proofs.agreement.are_apart.Goals as goal

pub returns-then-not-same_end-3 : goal.returns-then-not-same_end-3
returns-then-not-same_end-3 c = search rules
