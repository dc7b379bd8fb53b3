use Rattle.std.proofs.Common.{rules}
use Rattle.net_laws.proofs.agreement.is_wire.Goals as goal

pub returns-then-are_wired : goal.returns-then-are_wired
returns-then-are_wired c = search rules
