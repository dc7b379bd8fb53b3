use Rattle.std.proofs.Common.{rules}
use Rattle.field_rows.proofs.reading.array_at.Goals as goal

pub returns-clause-text : goal.returns-clause-text
returns-clause-text g c = search rules
