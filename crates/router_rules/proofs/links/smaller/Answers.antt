use Rattle.std.proofs.Common.{rules}
use Rattle.router_rules.proofs.links.smaller.Goals as goal

pub returns-clause-count : goal.returns-clause-count
returns-clause-count c = search rules
