use Rattle.std.proofs.Common.{◌+◌, arith}
use Rattle.field_rows.proofs.Rows.{Puts-next}
use Rattle.path_fields.proofs.WritingLemmas.{hop_len}
use Rattle.path_fields.proofs.one_hop.write_one_hop.Goals as goal

pub returns : goal.returns
returns c =
    let at = c.args.at in
    Puts-next _ _ _ at (at + 8) _ _ c.write_info.ensures (Puts-next _ _ _ (at + 8) (at + 20) _ _ c.write_hop.ensures c.put.ensures (omega (arith, hop_len c.args.first.now))) (omega arith)
