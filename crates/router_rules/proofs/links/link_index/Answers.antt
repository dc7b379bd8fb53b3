use Rattle.std.proofs.Common.{rules}
use Rattle.router_rules.proofs.links.link_index.Goals as goal

pub returns-clause-index : goal.returns-clause-index
returns-clause-index c = search rules
