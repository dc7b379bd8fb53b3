-- The shares handed back: what they posted and still hold, added up.
use Rattle.std.proofs.Common.{◌≡◌, ℕ, ◌+◌, ◌-◌, ◌*◌, ◌^◌, ◌≤◌, List, [], ◌∷◌, ◌++◌, fold, length, slice_index, refl, sym, ap, ◌∙◌, subst, length-append, arith}
use Rattle.std.proofs.lemmas.List.Sums.{fold-append}
use Rattle.process_packet.specs.Cause.{causes}
use Rattle.process_packet.specs.declared.totals.Totals.{Totals}
use Rattle.packet_ledger.specs.declared.tokens.Table.{Table}
use Rattle.packet_ledger.specs.declared.tokens.View.{View}
use Rattle.packet_ledger.specs.Amounts.{count_at, nothing, plus}
use Rattle.packet_ledger.specs.Shown.{add_rows, counted_at, no_rows, single}
use Rattle.packet_ledger.specs.Tokens.{Audited, gathered, keeper, kept}
use Rattle.packet_ledger.specs.Share.{AreNew, AreTheirRows, Held, IsNew, new_share, counts_of, posted_by, rows_by, sum_at}
use Rattle.packet_ledger.proofs.Counting.{each_at, same_counts, plus_at, plus_nothing, nothing_at}
use Rattle.packet_ledger.proofs.Rows.{none_at, single_at}

posted_next : (xs : List Held) (s : Held) → posted_by (xs ++ s ∷ []) ≡ plus (posted_by xs) s.posted
posted_next xs s = fold-append (λ (t : Totals) (h : Held). plus t h.posted) nothing xs (s ∷ [])

pub counts_next : (xs : List Held) (s : Held) → counts_of (xs ++ s ∷ []) ≡ plus (counts_of xs) s.counts
counts_next xs s = fold-append (λ (t : Totals) (h : Held). plus t h.counts) nothing xs (s ∷ [])

rows_next : (xs : List Held) (s : Held) → rows_by (xs ++ s ∷ []) ≡ add_rows (rows_by xs) (counted_at s.place s.posted)
rows_next xs s = fold-append (λ (t : Table) (h : Held). add_rows t (counted_at h.place h.posted)) no_rows xs (s ∷ [])

pub gathered_next : (xs : List Held) (s : Held) (v0 v w : View) → v ≡ gathered (length xs) (posted_by xs) (rows_by xs) v0 → w ≡ gathered 1 (plus v.posted s.posted) (add_rows v.own (counted_at s.place s.posted)) v
    → w ≡ gathered (length (xs ++ s ∷ [])) (posted_by (xs ++ s ∷ [])) (rows_by (xs ++ s ∷ [])) v0
gathered_next xs s v0 v w is then =
    let next : w ≡ gathered 1 (plus (posted_by xs) s.posted) (add_rows (rows_by xs) (counted_at s.place s.posted)) (gathered (length xs) (posted_by xs) (rows_by xs) v0) =
    then ∙ ap (λ (u : View). gathered 1 (plus u.posted s.posted) (add_rows u.own (counted_at s.place s.posted)) u) is in
    let n : v0.parts + length xs + 1 ≡ v0.parts + length (xs ++ s ∷ []) = omega (arith, length-append xs (s ∷ [])) in
    next ∙ (λ i. record { keeps = v0.keeps; parts = n i; posted = sym (posted_next xs s) i; own = sym (rows_next xs s) i; booked = v0.booked; rows = v0.rows; seen = nothing; seen_rows = no_rows })

-- the new share at a place is a new share
pub is_new : (place : ℕ) (s : Held) → s ≡ new_share place → IsNew s
is_new place s is = is ∙ ap new_share (sym (ap (λ (h : Held). h.place) is))

-- one more new share
pub new_next : (n : ℕ) (xs : List Held) (s : Held) → AreNew n xs → s ≡ new_share (n + length xs) → AreNew n (xs ++ s ∷ [])
new_next n [] s all is = (subst (λ (k : ℕ). s ≡ new_share k) (omega arith) is, tt)
new_next n (x ∷ xs) s all is = (all.0, new_next (n + 1) xs s all.1 (subst (λ (k : ℕ). s ≡ new_share k) (omega arith) is))

-- each posted at most its most
pub posted_most : (xs : List Held) (s : Held) (i : ℕ) → count_at i (posted_by xs) ≤ length xs * 2 ^ 109 → count_at i s.posted ≤ 2 ^ 109 → count_at i (posted_by (xs ++ s ∷ [])) ≤ length (xs ++ s ∷ []) * 2 ^ 109
posted_most xs s i most one =
    let p = plus_at i (posted_by xs) s.posted in let e = ap (count_at i) (posted_next xs s) in omega (arith, length-append xs (s ∷ []))

-- so the book's token may give all that it knows as posted away with as many parts
pub gives_all : (shares : List Held) (m : ℕ) (zero' : Totals) (v0 v1 v2 : View) → m ≡ length shares → zero' ≡ nothing → v1 ≡ gathered (length shares) (posted_by shares) (rows_by shares) v0 → v2 ≡ v1 → ((i : ℕ) → count_at i (posted_by shares) ≤ length shares * 2 ^ 109)
    → (i : ℕ) → count_at i v2.posted + count_at i zero' ≤ m * 2 ^ 109
gives_all shares m zero' v0 v1 v2 all isZero is1 is2 most i =
    let a : count_at i v2.posted ≡ count_at i (posted_by shares) = ap (λ (v : View). count_at i v.posted) (is2 ∙ is1) in
    let b = ap (count_at i) isZero in let z = nothing_at i in let s = most i in omega arith

-- the rows of what all shares posted, place by place
inputs_from : (t : Table) (shares : List Held) (k : ℕ) → slice_index (fold (λ (u : Table) (s : Held). add_rows u (counted_at s.place s.posted)) t shares).inputs k ≡ slice_index t.inputs k + sum_at (λ s. s.posted.received) k shares
inputs_from t [] k = omega arith
inputs_from t (s ∷ shares) k =
    let r = inputs_from (add_rows t (counted_at s.place s.posted)) shares k in
    let e = each_at t.inputs (single s.place s.posted.received) k in let o = single_at s.place s.posted.received k in omega arith

outputs_from : (t : Table) (shares : List Held) (k : ℕ) → slice_index (fold (λ (u : Table) (s : Held). add_rows u (counted_at s.place s.posted)) t shares).outputs k ≡ slice_index t.outputs k + sum_at (λ s. s.posted.sent + s.posted.answered) k shares
outputs_from t [] k = omega arith
outputs_from t (s ∷ shares) k =
    let r = outputs_from (add_rows t (counted_at s.place s.posted)) shares k in
    let e = each_at t.outputs (single s.place (s.posted.sent + s.posted.answered)) k in let o = single_at s.place (s.posted.sent + s.posted.answered) k in omega arith

their_rows : (totals : Totals) (shares : List Held) (rows : Table) → ((k : ℕ) → (slice_index (rows_by shares).inputs k ≡ slice_index rows.inputs k) × (slice_index (rows_by shares).outputs k ≡ slice_index rows.outputs k))
    → AreTheirRows shares (record { totals = totals; inputs = rows.inputs; outputs = rows.outputs })
their_rows totals shares rows same = record {
  inputs = λ k. let s = (same k).0 in let f = inputs_from no_rows shares k in let z = none_at k in omega arith;
  outputs = λ k. let s = (same k).1 in let f = outputs_from no_rows shares k in let z = none_at k in omega arith;
}

-- with every share taken in, the sums and the rows are all that was posted, and the book's token can be as it was
pub closes : (workers n m : ℕ) (totals zero' : Totals) (rows : Table) (shares : List Held) (v0 v1 v2 v3 : View) → workers ≤ 65536 → n ≡ workers → m ≡ n → length totals.dropped ≡ causes → zero' ≡ nothing
    → v0 ≡ keeper (65537 - workers) nothing no_rows totals rows → v1 ≡ gathered n (posted_by shares) (rows_by shares) v0 → Audited v1 v2 → v3 ≡ kept m zero' rows v2
    → (v3 ≡ keeper (65537 - workers) nothing no_rows totals rows) × (totals ≡ posted_by shares) × AreTheirRows shares (record { totals = totals; inputs = rows.inputs; outputs = rows.outputs })
closes workers n m totals zero' rows shares v0 v1 v2 v3 few all given long isZero is0 is1 told is3 =
    let parts : 65537 - workers + n ≡ 65537 = omega arith in
    let first : v1 ≡ keeper 65537 (posted_by shares) (rows_by shares) totals rows = is1 ∙ ap (gathered n (posted_by shares) (rows_by shares)) is0 ∙ (λ i. keeper (parts i) (posted_by shares) (rows_by shares) totals rows) in
    let P : View → Type 0 = λ u. (u.parts ≡ 65537 → (i : ℕ) → count_at i u.posted ≡ count_at i u.booked) × (length u.posted.dropped ≡ causes)
    × (u.parts ≡ 65537 → (k : ℕ) → (slice_index u.own.inputs k ≡ slice_index u.rows.inputs k) × (slice_index u.own.outputs k ≡ slice_index u.rows.outputs k)) in
    let whole = subst P first (told.2, told.3, told.6) in
    let second = told.0 ∙ first in
    let b = plus_nothing totals long in
    let rest : 65537 - m ≡ 65537 - workers = omega arith in (
      is3 ∙ (λ i. kept m (isZero i) rows (second i)) ∙ (λ i. keeper (rest i) nothing no_rows (b i) rows),
      same_counts totals (posted_by shares) (long ∙ sym whole.1) (λ i. sym (whole.0 refl i)),
      their_rows totals shares rows (whole.2 refl),
    )
