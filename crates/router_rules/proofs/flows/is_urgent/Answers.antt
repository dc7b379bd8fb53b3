use Rattle.std.proofs.Common.{rules}
use Rattle.router_rules.proofs.flows.is_urgent.Goals as goal

pub returns : goal.returns
returns c = search rules
