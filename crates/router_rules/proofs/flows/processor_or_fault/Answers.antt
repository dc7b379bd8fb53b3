use Rattle.std.proofs.Common.{rules}
use Rattle.router_rules.proofs.flows.processor_or_fault.Goals as goal

pub returns-in-Some-clause-cause : goal.returns-in-Some-clause-cause
returns-in-Some-clause-cause c = search rules
