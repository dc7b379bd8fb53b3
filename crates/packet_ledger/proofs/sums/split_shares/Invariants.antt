use Rattle.std.proofs.Common.{◌≡◌, ◌-◌, length}
use Rattle.crossbeam_utils.specs.Seq.{cell_view}
use Rattle.packet_ledger.specs.Amounts.{nothing}
use Rattle.packet_ledger.specs.Shown.{no_rows}
use Rattle.packet_ledger.specs.Tokens.{keeper}
use Rattle.packet_ledger.specs.Share.{AreNew}
use Rattle.packet_ledger.proofs.sums.split_shares.Given as goal

abbrev pub invariant-loop-place : goal.invariant-loop-place
invariant-loop-place g l =
    (l.token.table_id ≡ g.N.RunBrand.table)
    × (cell_view l.token ≡ keeper (65537 - l.place) nothing no_rows nothing no_rows)
    × (length l.shares.items ≡ l.place)
    × AreNew 0 l.shares.items
