use Rattle.std.proofs.Common.{rules}
use Rattle.scion_header.proofs.fields.next_header.Goals as goal

pub returns : goal.returns
returns c = search rules
