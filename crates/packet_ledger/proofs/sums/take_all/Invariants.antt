use Rattle.std.proofs.Common.{◌≡◌, ℕ, ◌*◌, ◌^◌, ◌≤◌, ◌++◌, length}
use Rattle.std.specs.Vec.Iter.{into_iter_items, into_iter_len}
use Rattle.crossbeam_utils.specs.Seq.{cell_view}
use Rattle.packet_ledger.specs.Amounts.{count_at}
use Rattle.packet_ledger.specs.Tokens.{gathered}
use Rattle.packet_ledger.specs.Share.{counts_of, posted_by, rows_by}
use Rattle.packet_ledger.proofs.sums.take_all.Given as goal

abbrev pub invariant-loop-share : goal.invariant-loop-share
invariant-loop-share g l =
    (l.token.table_id ≡ g.N.RunBrand.table)
    × (cell_view l.token ≡ gathered (length l.yielded) (posted_by l.yielded) (rows_by l.yielded) (cell_view l.initial.token))
    × (l.counts ≡ counts_of l.yielded)
    × ((i : ℕ) → count_at i l.counts ≤ length l.yielded * 1267650600228229401496703205376)
    × ((i : ℕ) → count_at i (posted_by l.yielded) ≤ length l.yielded * 2 ^ 109)
    × (l.yielded ++ into_iter_items l.share-iterator ≡ into_iter_items l.initial.share-iterator)
    × (into_iter_len l.share-iterator ≡ length (into_iter_items l.share-iterator))
