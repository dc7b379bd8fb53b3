use Rattle.std.proofs.Common.{rules}
use Rattle.router_rules.proofs.ports.Ports.count.Goals as goal

pub returns : goal.returns
returns c = search rules
