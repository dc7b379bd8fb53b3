use Rattle.field_rows.proofs.Rows.{Puts-then}
use Rattle.scion_header.proofs.writing.write_domain.Goals as goal

pub returns : goal.returns
returns c = Puts-then _ _ _ _ _ _ c.put_u16.ensures c.put_u48.ensures
