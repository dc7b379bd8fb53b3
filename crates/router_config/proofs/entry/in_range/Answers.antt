use Rattle.std.proofs.Common.{rules}
use Rattle.router_config.proofs.entry.in_range.Goals as goal

pub returns-else-least-found-clause-value : goal.returns-else-least-found-clause-value
returns-else-least-found-clause-value c = search rules
