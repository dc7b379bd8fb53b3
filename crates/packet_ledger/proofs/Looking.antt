-- A look: what the book's token tells of it, and that it is as it was.
use Rattle.std.proofs.Common.{◌≡◌, ℕ, ◌+◌, ◌≤◌, List, ap, ◌∙◌, subst, arith}
use Rattle.process_packet.specs.declared.totals.Totals.{Totals}
use Rattle.packet_ledger.specs.declared.tokens.Table.{Table}
use Rattle.packet_ledger.specs.declared.tokens.View.{View}
use Rattle.packet_ledger.specs.Amounts.{count_at, nothing, plus}
use Rattle.packet_ledger.specs.Share.{AreTheirRows, AreWithinTheirs, Held, counts_of, posted_by}
use Rattle.packet_ledger.specs.Shown.{AreUpTo, HasGrown, Shown, no_rows}
use Rattle.packet_ledger.specs.Tokens.{Audited, joined, keeper, looker, unlooked}
use Rattle.packet_ledger.proofs.Counting.{plus_at}

-- the book's token after a look's was cut off it
pub still : (n : ℕ) (totals : Totals) (rows : Table) (v0 v1 : View) → v0 ≡ keeper n nothing no_rows totals rows → v1 ≡ unlooked v0 → v1 ≡ keeper n nothing no_rows totals rows
still n totals rows v0 v1 is0 is1 = is1 ∙ ap unlooked is0

-- with the token of the look before taken in, it tells that that one saw no more, and then it is as it was
pub looked : (n : ℕ) (totals seen : Totals) (rows seen_rows : Table) (v0 v1 v2 v3 v4 w : View)
    → v0 ≡ keeper n nothing no_rows totals rows → v1 ≡ unlooked v0 → w ≡ looker seen seen_rows → v2 ≡ joined v1 w → Audited v2 v3 → v4 ≡ unlooked v3
    → (v4 ≡ keeper n nothing no_rows totals rows) × ((i : ℕ) → count_at i seen ≤ count_at i totals) × AreUpTo seen_rows rows
looked n totals seen rows seen_rows v0 v1 v2 v3 v4 w is0 is1 isW is2 told is4 =
    let first = still n totals rows v0 v1 is0 is1 in
    let both : v2 ≡ joined (keeper n nothing no_rows totals rows) (looker seen seen_rows) = is2 ∙ (λ i. joined (first i) (isW i)) in
    let P : View → Type 0 = λ u. ((i : ℕ) → count_at i u.seen ≤ count_at i u.booked) × AreUpTo u.seen_rows u.rows in
    let saw = subst P both (told.4, told.5) in
    let parts : n + 0 ≡ n = omega arith in (
      is4 ∙ ap unlooked (told.0 ∙ both) ∙ (λ i. keeper (parts i) nothing no_rows totals rows),
      saw.0,
      saw.1,
    )

-- no look before a last one, which shows what the shares posted, saw more than they counted
pub within : (shares : List Held) (old new : Shown) (all : Totals) → HasGrown old new → new.totals ≡ posted_by shares → all ≡ plus (posted_by shares) (counts_of shares) → (i : ℕ) → count_at i old.totals ≤ count_at i all
within shares old new all grown last is i =
    let g = grown.0 i in let l = ap (count_at i) last in let a = ap (count_at i) is in let p = plus_at i (posted_by shares) (counts_of shares) in omega arith

-- nor in its rows
pub rows_within : (shares : List Held) (old new : Shown) → HasGrown old new → AreTheirRows shares new → AreWithinTheirs shares old
rows_within shares old new grown rows = record {
  inputs = λ k. let g = grown.1.inputs k in let r = rows.inputs k in omega arith;
  outputs = λ k. let g = grown.1.outputs k in let r = rows.outputs k in omega arith;
}
