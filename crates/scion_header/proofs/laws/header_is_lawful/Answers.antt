use Rattle.std.proofs.Common.{rules}
use Rattle.scion_header.proofs.laws.header_is_lawful.Goals as goal

pub returns : goal.returns
returns c = search rules
