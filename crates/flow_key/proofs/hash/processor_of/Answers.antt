use Rattle.std.proofs.Common.{rules}
use Rattle.flow_key.proofs.hash.processor_of.Goals as goal

pub returns-clause-processor : goal.returns-clause-processor
returns-clause-processor c = search rules
