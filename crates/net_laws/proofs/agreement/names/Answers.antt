use Rattle.std.proofs.Common.{rules}
use Rattle.net_laws.proofs.agreement.names.Goals as goal

pub returns-then-named-there : goal.returns-then-named-there
returns-then-named-there c = search rules
