use Rattle.std.proofs.lemmas.Grind.{elements}
use Rattle.std.proofs.Common.{arith}
use Rattle.field_rows.proofs.writing.put_u8.Goals as goal

pub returns : goal.returns
returns c = grind (arith, elements)
