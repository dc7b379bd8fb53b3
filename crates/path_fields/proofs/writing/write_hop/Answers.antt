use Rattle.std.proofs.Common.{◌+◌, arith}
use Rattle.field_rows.proofs.Rows.{Puts-next}
use Rattle.path_fields.proofs.writing.write_hop.Goals as goal

pub returns : goal.returns
returns c =
    let at = c.args.at in
    Puts-next _ _ _ at (at + 1) _ _ (rw c.flags_of-flags.ensures at c.put_u8.ensures) (Puts-next _ _ _ (at + 1) (at + 2) _ _ c.put_u8-2.ensures (Puts-next _ _ _ (at + 2) (at + 4) _ _ c.put_u16.ensures
    (Puts-next _ _ _ (at + 4) (at + 6) _ _ c.put_u16-2.ensures c.put.ensures (omega arith)) (omega arith)) (omega arith)) (omega arith)
