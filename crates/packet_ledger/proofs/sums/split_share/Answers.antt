use Rattle.std.proofs.Common.{[], ap, subst, sym}
use Rattle.packet_ledger.specs.declared.tokens.Table.{Table}
use Rattle.packet_ledger.specs.declared.tokens.View.{View}
use Rattle.packet_ledger.specs.Shown.{AreRaised, no_rows, rows_of}
use Rattle.packet_ledger.proofs.Rows.{unraised}
use Rattle.packet_ledger.proofs.sums.split_share.Goals as goal

pub give-requires-clause-rows : goal.give-requires-clause-rows
give-requires-clause-rows g c =
    subst (λ (t : Table). AreRaised c.args.place c.none-counts.result t (rows_of [] [])) (sym (ap (λ (v : View). v.rows) c.requires.token.0)) (unraised c.args.place c.none-counts.result no_rows c.none-counts.ensures)
