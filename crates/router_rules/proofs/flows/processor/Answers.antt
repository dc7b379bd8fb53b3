use Rattle.std.proofs.Common.{rules}
use Rattle.router_rules.proofs.flows.processor.Goals as goal

pub returns-clause-processor : goal.returns-clause-processor
returns-clause-processor c = search rules

pub returns-clause-there : goal.returns-clause-there
returns-clause-there c = search rules
