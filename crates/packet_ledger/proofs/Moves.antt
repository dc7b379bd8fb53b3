-- Each step of a token keeps the rule.
use Rattle.std.proofs.Common.{◌≡◌, ◌≢◌, ℕ, zero, suc, ◌+◌, ◌-◌, ◌*◌, ◌^◌, ◌≤◌, List, [], ◌∷◌, ◌++◌, length, set, slice_index, true, false, true≢false, refl, sym, ap, ◌∙◌, subst, ⊎_elim, arith}
use mathlib.Core.Option.{some, some-ne-none, some-injective}
use lib.ListN.{get_elem?}
use Rattle.crossbeam_utils.specs.Register.{Turns, Forks, Merges}
use Rattle.atomic_table.proofs.Lists.{at_set, at_snoc, set_again}
use Rattle.process_packet.specs.Cause.{causes}
use Rattle.process_packet.specs.declared.totals.Totals.{Totals}
use Rattle.packet_ledger.specs.declared.tokens.Table.{Table}
use Rattle.packet_ledger.specs.declared.tokens.View.{View}
use Rattle.packet_ledger.specs.Amounts.{count_at, nothing, plus, AtMost}
use Rattle.packet_ledger.specs.Shown.{AreRaised, AreUpTo, counted_at, no_rows, single}
use Rattle.packet_ledger.specs.Tokens.{keeper, holder, looker, unlooked, nobody, kept, given, joined, total, posted_at, AreWithin, Fits, Balanced, Audited}
use Rattle.packet_ledger.proofs.Counting.{each_at, nothing_at, plus_at, length-add_each, plus_nothing, nothing_plus}
use Rattle.packet_ledger.proofs.Rows.{counted_plus, counted_within, no_rows_are, none_at, none_within, raised_up, rows_from, same_rows, sum_within}

off : {P : Type 0} → false ≡ true → P
off e = absurd (true≢false (sym e))

total_set : (f : View → ℕ) (views : List View) (by : ℕ) (v w : View) → get_elem? views by ≡ some v → total f (set views by w) + f v ≡ total f views + f w
total_set f [] by v w at = absurd (some-ne-none v (sym at))
total_set f (x ∷ xs) zero v w at = let e : f x ≡ f v = ap f (some-injective x v at) in omega arith
total_set f (x ∷ xs) (suc by) v w at = let r = total_set f xs by v w at in omega arith

total_new : (f : View → ℕ) (views : List View) (w : View) → total f (views ++ w ∷ []) ≡ total f views + f w
total_new f [] w = omega arith
total_new f (x ∷ xs) w = let r = total_new f xs w in omega arith

-- where f of each is at most 2^109 for each of its parts, so is the sum for all parts
total_most : (f : View → ℕ) (views : List View) → ((by : ℕ) (u : View) → get_elem? views by ≡ some u → f u ≤ u.parts * 2 ^ 109) → total f views ≤ total (λ (u : View). u.parts) views * 2 ^ 109
total_most f [] most = omega arith
total_most f (x ∷ xs) most =
    let a = most 0 x refl in
    let r = total_most f xs (λ by u at. most (suc by) u at) in omega arith

-- where f of each is at most a and b of it, so is the sum
total_two : (f a b : View → ℕ) (views : List View) → ((by : ℕ) (u : View) → get_elem? views by ≡ some u → f u ≤ a u + b u) → total f views ≤ total a views + total b views
total_two f a b [] most = omega arith
total_two f a b (x ∷ xs) most =
    let h = most 0 x refl in
    let r = total_two f a b xs (λ by u at. most (suc by) u at) in omega arith

all_set : (F : ℕ → View → Type 0) (views : List View) (by : ℕ) (w : View) → F by w → ((j : ℕ) (u : View) → j ≢ by → get_elem? views j ≡ some u → F j u) → (j : ℕ) (u : View) → get_elem? (set views by w) j ≡ some u → F j u
all_set F views by w mine others j u e =
    ⊎_elim
    (λ (x : (j ≡ by) × (w ≡ u)). subst (λ (y : ℕ × View). F y.0 y.1) (λ i. (sym x.0 i, x.1 i)) mine)
    (λ (x : (j ≢ by) × (get_elem? views j ≡ some u)). others j u x.0 x.1)
    (at_set views by j w u e)

pub begins : (words : List ℕ) → Balanced words (keeper 65537 nothing no_rows nothing no_rows ∷ [])
begins words = record {
  seat = 0;
  rows = no_rows;
  whole = refl;
  owns = λ k. record { inputs = omega arith; outputs = omega arith };
  fits = one;
}
  where
    one : (by : ℕ) (v : View) → get_elem? (keeper 65537 nothing no_rows nothing no_rows ∷ []) by ≡ some v → Fits 0 (posted_at (keeper 65537 nothing no_rows nothing no_rows ∷ [])) no_rows by v
    one zero v e = subst (Fits 0 (posted_at (keeper 65537 nothing no_rows nothing no_rows ∷ [])) no_rows 0) (some-injective _ _ e)
        ((λ _. (refl, (λ i. let z = nothing_at i in omega arith), refl)), (λ i. let z = nothing_at i in omega arith), refl, (λ i. let z = nothing_at i in omega arith), same_rows no_rows, none_within nothing)
    one (suc by) v e = absurd (some-ne-none v (sym e))

-- the book's token gives parts away, with what it knew as posted and these counts at a place, and its rows become these
pub gives : (by : ℕ) (v : View) (n : ℕ) (counts : Totals) (place : ℕ) (rows : Table) → v.keeps ≡ true → n ≤ v.parts → ((i : ℕ) → count_at i v.posted + count_at i counts ≤ n * 2 ^ 109) → length counts.dropped ≡ causes
    → AreRaised place counts v.rows rows → Forks Balanced by v (kept n counts rows v) (given n counts place v)
gives by v n counts place rows keeps enough few long up words views h at =
    let l = kept n counts rows v in let r = given n counts place v in let vs = set views by l in
    let mine = h.fits by v at in let seat = mine.0 keeps in
    let sum : (i : ℕ) → posted_at (vs ++ r ∷ []) i ≡ posted_at views i + count_at i counts =
    λ i.
    let f : View → ℕ = λ u. count_at i u.posted in
    let a = total_set f views by v l at in let b = total_new f vs r in let z = nothing_at i in let p = plus_at i v.posted counts in omega arith in
    let more : AreUpTo h.rows rows = subst (λ (t : Table). AreUpTo t rows) seat.2 (raised_up place counts v.rows rows up) in
    let F = Fits h.seat (posted_at (vs ++ r ∷ [])) rows in
    let left : F by l = (
      (λ _. (seat.0, (λ i. let b = seat.1 i in let p = plus_at i v.booked counts in let s = sum i in omega arith), refl)),
      (λ i. let z = nothing_at i in omega arith),
      refl,
      (λ i. let z = nothing_at i in omega arith),
      no_rows_are rows,
      none_within nothing,
    ) in
    let right : (j : ℕ) → F j r = λ j. (
      (λ e. off e),
      (λ i. let o = few i in let p = plus_at i v.posted counts in omega arith),
      length-add_each causes v.posted.dropped counts.dropped mine.2 long,
      (λ i. let z = nothing_at i in omega arith),
      no_rows_are rows,
      sum_within v.own (counted_at place counts) v.posted counts mine.5 (counted_within place counts),
    ) in
    let others = all_set F views by l left
    (λ j u apart e. let was = h.fits j u e in (
      (λ k. absurd (apart ((was.0 k).0 ∙ sym seat.0))),
      was.1,
      was.2,
      (λ i. let w = was.3 i in let s = sum i in omega arith),
      rows_from u.seen_rows h.rows rows was.4 more,
      was.5,
    )) in record {
      seat = h.seat;
      rows = rows;
      whole = (
          let f : View → ℕ = λ u. u.parts in
          let a = total_set f views by v l at in let b = total_new f vs r in let w = h.whole in omega arith
          );
      owns = λ k. record {
        inputs = (
            let f : View → ℕ = λ u. slice_index u.own.inputs k in
            let a = total_set f views by v l at in let b = total_new f vs r in let z = none_at k in let w = (h.owns k).inputs in
            let e = each_at v.own.inputs (single place counts.received) k in let s = ap (λ (t : Table). slice_index t.inputs k) seat.2 in let m = up.inputs k in omega arith
            );
        outputs = (
            let f : View → ℕ = λ u. slice_index u.own.outputs k in
            let a = total_set f views by v l at in let b = total_new f vs r in let z = none_at k in let w = (h.owns k).outputs in
            let e = each_at v.own.outputs (single place (counts.sent + counts.answered)) k in let s = ap (λ (t : Table). slice_index t.outputs k) seat.2 in let m = up.outputs k in omega arith
            );
      };
      fits = λ j u e. ⊎_elim (λ was. others j u was) (λ (same : r ≡ u). subst (F j) same (right j)) (at_snoc vs r u j e);
    }

-- a look's token is cut off that of the book
pub shows : (by : ℕ) (v : View) → v.keeps ≡ true → Forks Balanced by v (unlooked v) (looker v.booked v.rows)
shows by v keeps words views h at =
    let l = unlooked v in let r = looker v.booked v.rows in let vs = set views by l in
    let mine = h.fits by v at in let seat = mine.0 keeps in
    let sum : (i : ℕ) → posted_at (vs ++ r ∷ []) i ≡ posted_at views i =
    λ i.
    let f : View → ℕ = λ u. count_at i u.posted in
    let a = total_set f views by v l at in let b = total_new f vs r in let z = nothing_at i in omega arith in
    let F = Fits h.seat (posted_at (vs ++ r ∷ [])) h.rows in
    let left : F by l = (
      (λ _. (seat.0, (λ i. seat.1 i ∙ sym (sum i)), seat.2)),
      mine.1,
      mine.2,
      (λ i. let z = nothing_at i in omega arith),
      no_rows_are h.rows,
      mine.5,
    ) in
    let right : (j : ℕ) → F j r = λ j. (
      (λ e. off e),
      (λ i. let z = nothing_at i in omega arith),
      refl,
      (λ i. let b = seat.1 i in let s = sum i in omega arith),
      subst (AreUpTo v.rows) seat.2 (same_rows v.rows),
      none_within nothing,
    ) in
    let others = all_set F views by l left
    (λ j u _ e. let was = h.fits j u e in (
      (λ k. ((was.0 k).0, (λ i. (was.0 k).1 i ∙ sym (sum i)), (was.0 k).2)),
      was.1,
      was.2,
      (λ i. let w = was.3 i in let s = sum i in omega arith),
      was.4,
      was.5,
    )) in record {
      seat = h.seat;
      rows = h.rows;
      whole = (
          let f : View → ℕ = λ u. u.parts in
          let a = total_set f views by v l at in let b = total_new f vs r in let w = h.whole in omega arith
          );
      owns = λ k. record {
        inputs = (
            let f : View → ℕ = λ u. slice_index u.own.inputs k in
            let a = total_set f views by v l at in let b = total_new f vs r in let z = none_at k in let w = (h.owns k).inputs in omega arith
            );
        outputs = (
            let f : View → ℕ = λ u. slice_index u.own.outputs k in
            let a = total_set f views by v l at in let b = total_new f vs r in let z = none_at k in let w = (h.owns k).outputs in omega arith
            );
      };
      fits = λ j u e. ⊎_elim (λ was. others j u was) (λ (same : r ≡ u). subst (F j) same (right j)) (at_snoc vs r u j e);
    }

-- a token takes another in
pub takes : (by : ℕ) (v : View) (other : ℕ) (w : View) → Merges Balanced by v other w (joined v w) nobody
takes by v other w words views h at apart there =
    let both = joined v w in let vs = set views by both in let new = set vs other nobody in
    let mine = h.fits by v at in
    let theirs = ⊎_elim (λ (t : (other ≡ by) × (both ≡ w)). absurd (apart t.0)) (λ (t : (other ≢ by) × (get_elem? views other ≡ some w)). h.fits other w t.1) (at_set views by other both w there) in
    let sum : (i : ℕ) → posted_at new i ≡ posted_at views i =
    λ i.
    let f : View → ℕ = λ u. count_at i u.posted in
    let a = total_set f views by v both at in let b = total_set f vs other w nobody there in let z = nothing_at i in let p = plus_at i v.posted w.posted in omega arith in
    let F = Fits h.seat (posted_at new) h.rows in
    let one : F by both = (
      (λ k. ((mine.0 k).0, (λ i. (mine.0 k).1 i ∙ sym (sum i)), (mine.0 k).2)),
      (λ i. let a = mine.1 i in let b = theirs.1 i in let p = plus_at i v.posted w.posted in omega arith),
      length-add_each causes v.posted.dropped w.posted.dropped mine.2 theirs.2,
      (λ i. let t = theirs.3 i in let s = sum i in omega arith),
      theirs.4,
      sum_within v.own w.own v.posted w.posted mine.5 theirs.5,
    ) in
    let first = all_set F views by both one
    (λ j u _ e. let was = h.fits j u e in (
      (λ k. ((was.0 k).0, (λ i. (was.0 k).1 i ∙ sym (sum i)), (was.0 k).2)),
      was.1,
      was.2,
      (λ i. let w = was.3 i in let s = sum i in omega arith),
      was.4,
      was.5,
    )) in record {
      seat = h.seat;
      rows = h.rows;
      whole = (
          let f : View → ℕ = λ u. u.parts in
          let a = total_set f views by v both at in let b = total_set f vs other w nobody there in let s = h.whole in omega arith
          );
      owns = λ k. record {
        inputs = (
            let f : View → ℕ = λ u. slice_index u.own.inputs k in
            let a = total_set f views by v both at in let b = total_set f vs other w nobody there in let z = none_at k in let o = (h.owns k).inputs in
            let e = each_at v.own.inputs w.own.inputs k in omega arith
            );
        outputs = (
            let f : View → ℕ = λ u. slice_index u.own.outputs k in
            let a = total_set f views by v both at in let b = total_set f vs other w nobody there in let z = none_at k in let o = (h.owns k).outputs in
            let e = each_at v.own.outputs w.own.outputs k in omega arith
            );
      };
      fits = all_set F vs other nobody ((λ e. off e), (λ i. let z = nothing_at i in omega arith), refl, (λ i. let z = nothing_at i in omega arith), no_rows_are h.rows, none_within nothing) (λ j u _ e. first j u e);
    }

-- the book's token tells what it knows
pub audits : (by : ℕ) (v : View) → v.keeps ≡ true → Turns Balanced by v (λ x. x) (λ v before after w. Audited v w)
audits by v keeps words views h at =
    let mine = h.fits by v at in let seat = mine.0 keeps in
    let rest : (i : ℕ) → posted_at (set views by nobody) i + count_at i v.posted ≡ posted_at views i =
    λ i.
    let f : View → ℕ = λ u. count_at i u.posted in
    let a = total_set f views by v nobody at in let z = nothing_at i in omega arith in
    let most : (i : ℕ) (j : ℕ) (u : View) → get_elem? (set views by nobody) j ≡ some u → count_at i u.posted ≤ u.parts * 2 ^ 109 =
    λ i. all_set (λ j u. count_at i u.posted ≤ u.parts * 2 ^ 109) views by nobody (let z = nothing_at i in omega arith) (λ j u _ e. (h.fits j u e).1 i) in
    let within = all_set (λ j u. AreWithin u.own u.posted) views by nobody (none_within nothing) (λ j u _ e. (h.fits j u e).5) in (
      v,
      subst (λ l. Balanced words l) (sym (set_again views by v at)) h,
      (
        refl,
        (λ i.
            let all = total_most (λ u. count_at i u.posted) views (λ j u e. (h.fits j u e).1 i) in
            let b = seat.1 i in let w = h.whole in omega arith),
        (λ all i.
            let f : View → ℕ = λ u. u.parts in
            let a = total_set f views by v nobody at in let w = h.whole in
            let none = total_most (λ u. count_at i u.posted) (set views by nobody) (most i) in
            let r = rest i in let b = seat.1 i in omega arith),
        mine.2,
        (λ i. let s = mine.3 i in let b = seat.1 i in omega arith),
        subst (AreUpTo v.seen_rows) (sym seat.2) mine.4,
        (λ all k.
            let p : View → ℕ = λ u. u.parts in
            let w = total_set p views by v nobody at in let whole = h.whole in let z = none_at k in (
              (
                  let f : View → ℕ = λ u. slice_index u.own.inputs k in
                  let none = total_most f (set views by nobody) (λ j u e. let x = (within j u e).inputs k in let y = most 0 j u e in omega arith) in
                  let a = total_set f views by v nobody at in let o = (h.owns k).inputs in let s = ap (λ (t : Table). slice_index t.inputs k) seat.2 in omega arith
                  ),
              (
                  let f : View → ℕ = λ u. slice_index u.own.outputs k in
                  let g : View → ℕ = λ u. u.posted.sent in let h' : View → ℕ = λ u. u.posted.answered in
                  let two = total_two f g h' (set views by nobody) (λ j u e. (within j u e).outputs k) in
                  let n1 = total_most g (set views by nobody) (most 1) in let n2 = total_most h' (set views by nobody) (most 2) in
                  let a = total_set f views by v nobody at in let o = (h.owns k).outputs in let s = ap (λ (t : Table). slice_index t.outputs k) seat.2 in omega arith
                  ),
            )),
      ),
    )

-- the book's token with a share's taken in
pub joins : (workers : ℕ) (totals posted zero' : Totals) (own rows : Table) (v0 v1 v2 w : View) → workers ≤ 65536 → length totals.dropped ≡ causes → length posted.dropped ≡ causes → zero' ≡ nothing
    → v0 ≡ keeper (65537 - workers) nothing no_rows totals rows → v1 ≡ kept 0 zero' rows v0 → w ≡ holder 1 posted own → v2 ≡ joined v1 w → v2 ≡ keeper (65538 - workers) posted own totals rows
joins workers totals posted zero' own rows v0 v1 v2 w few longT longP isZero is0 is1 isW is2 =
    let first : v1 ≡ keeper (65537 - workers) nothing no_rows totals rows =
    is1 ∙ (λ i. kept 0 (isZero i) rows (is0 i)) ∙ (let b = plus_nothing totals longT in let n : (65537 - workers) - 0 ≡ 65537 - workers = omega arith in λ i. keeper (n i) nothing no_rows (b i) rows) in
    is2 ∙ (λ i. joined (first i) (isW i)) ∙ (let b = nothing_plus posted longP in let n : 65537 - workers + 1 ≡ 65538 - workers = omega arith in λ i. keeper (n i) (b i) own totals rows)

-- it may give the share's posts and counts away with one part
pub gives_one : (n : ℕ) (totals posted counts sums : Totals) (own rows : Table) (v : View) → v ≡ keeper n posted own totals rows → sums ≡ plus posted counts → AtMost (2 ^ 109) sums → (i : ℕ) → count_at i v.posted + count_at i counts ≤ 1 * 2 ^ 109
gives_one n totals posted counts sums own rows v is isSums most i =
    let a : count_at i v.posted ≡ count_at i posted = ap (λ (u : View). count_at i u.posted) is in
    let p = plus_at i posted counts in let e = ap (count_at i) isSums in let m = most i in omega arith

-- what a post leaves: the book's token with the counts booked, by the new rows, and the share's with them posted
pub posts : (workers place : ℕ) (totals posted counts : Totals) (rows next : Table) (v3 v4 r : View) → workers ≤ 65536 → v3 ≡ keeper (65538 - workers) posted (counted_at place posted) totals rows → v4 ≡ kept 1 counts next v3 → r ≡ given 1 counts place v3
    → (v4 ≡ keeper (65537 - workers) nothing no_rows (plus totals counts) next) × (r ≡ holder 1 (plus posted counts) (counted_at place (plus posted counts)))
posts workers place totals posted counts rows next v3 v4 r few is3 is4 isR = (
  is4 ∙ ap (kept 1 counts next) is3 ∙ (let n : 65538 - workers - 1 ≡ 65537 - workers = omega arith in λ i. keeper (n i) nothing no_rows (plus totals counts) next),
  isR ∙ ap (given 1 counts place) is3 ∙ ap (holder 1 (plus posted counts)) (counted_plus place posted counts),
)

-- and what is booked then, beside what it may be at most
pub booked_most : (n : ℕ) (totals posted counts sums : Totals) (own rows : Table) (v : View) → v ≡ keeper n posted own totals rows → ((i : ℕ) → count_at i v.booked ≤ 65537 * 2 ^ 109) → AtMost (2 ^ 100) counts → sums ≡ plus totals counts → AtMost (2 ^ 126) sums
booked_most n totals posted counts sums own rows v is within few isSums i =
    let a : count_at i v.booked ≡ count_at i totals = ap (λ (u : View). count_at i u.booked) is in
    let w = within i in let f = few i in let p = plus_at i totals counts in let e = ap (count_at i) isSums in omega arith
