use Rattle.field_rows.proofs.Unique.{same_table}
use Rattle.field_rows.proofs.laws.one_spelling.Goals as goal

pub returns : goal.returns
returns c = same_table
