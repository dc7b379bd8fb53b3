use Rattle.std.proofs.Common.{rules}
use Rattle.scion_header.proofs.fields.front_end.Goals as goal

pub returns-clause-end : goal.returns-clause-end
returns-clause-end c = search rules
