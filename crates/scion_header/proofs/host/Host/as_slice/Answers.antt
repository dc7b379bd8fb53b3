use Rattle.std.proofs.Common.{rules}
use Rattle.scion_header.proofs.host.Host.as_slice.Goals as goal

pub returns-in-Sixteen-clause-text : goal.returns-in-Sixteen-clause-text
returns-in-Sixteen-clause-text c = search rules

pub returns-in-Sixteen-clause-len : goal.returns-in-Sixteen-clause-len
returns-in-Sixteen-clause-len c = search rules
