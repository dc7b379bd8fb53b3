use Rattle.std.proofs.Common.{rules}
use Rattle.net_laws.proofs.agreement.lists_router.Goals as goal

pub returns-else-ne : goal.returns-else-ne
returns-else-ne c = search rules
