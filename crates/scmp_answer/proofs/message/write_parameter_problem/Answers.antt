use Rattle.std.proofs.Common.{◌+◌, arith}
use Rattle.field_rows.proofs.Rows.{Puts-next}
use Rattle.scmp_answer.proofs.message.write_parameter_problem.Goals as goal

pub returns : goal.returns
returns c =
    let at = c.args.at in
    Puts-next _ _ _ at (at + 1) _ _ c.put_u8.ensures (Puts-next _ _ _ (at + 1) (at + 2) _ _ c.put_u8-2.ensures
    (Puts-next _ _ _ (at + 2) (at + 4) _ _ c.put_u16.ensures (Puts-next _ _ _ (at + 4) (at + 6) _ _ c.put_u16-2.ensures c.put_u16-3.ensures
    (omega arith)) (omega arith)) (omega arith)) (omega arith)
