-- Rows of numbers: which of them are up to which, and their sums.
use Rattle.std.proofs.Common.{◌≡◌, ℕ, zero, suc, ◌+◌, ◌<◌, ◌≤◌, ◌==◌, if◌then◌else◌, Bool, List, [], ◌∷◌, length, replicate, slice_index, slice_set, refl, sym, ap, subst, ◌∙◌, arith}
use lib.Dec.{eqb-suc-suc, eqb-suc-zero, eqb-zero-suc}
use Rattle.std.specs.List.{sum}
use Rattle.std.proofs.lemmas.List.Folds.{sum_by-replicate}
use Rattle.packet_ledger.specs.declared.tokens.Table.{Table}
use Rattle.process_packet.specs.declared.totals.Totals.{Totals}
use Rattle.packet_ledger.specs.Amounts.{add_each, nothing, plus}
use Rattle.packet_ledger.specs.Shown.{AreRaised, AreUpTo, IsUpTo, add_rows, counted_at, no_rows, rows_of, single}
use Rattle.packet_ledger.specs.Tokens.{AreWithin}
use Rattle.packet_ledger.proofs.Counting.{each_at, zero_of}

pub same_row : (xs : List ℕ) → IsUpTo xs xs
same_row xs k = omega arith

pub row_from : (xs ys zs : List ℕ) → IsUpTo xs ys → IsUpTo ys zs → IsUpTo xs zs
row_from xs ys zs a b k = let p = a k in let q = b k in omega arith

pub same_rows : (t : Table) → AreUpTo t t
same_rows t = record { inputs = same_row t.inputs; outputs = same_row t.outputs }

pub rows_from : (a b c : Table) → AreUpTo a b → AreUpTo b c → AreUpTo a c
rows_from a b c p q = record { inputs = row_from a.inputs b.inputs c.inputs p.inputs q.inputs; outputs = row_from a.outputs b.outputs c.outputs p.outputs q.outputs }

-- nothing stands in no row
pub none_at : (k : ℕ) → slice_index [] k ≡ 0
none_at zero = refl
none_at (suc k) = refl

none : (xs : List ℕ) → IsUpTo [] xs
none xs k = let z = none_at k in omega arith

pub no_rows_are : (t : Table) → AreUpTo no_rows t
no_rows_are t = record { inputs = none t.inputs; outputs = none t.outputs }

-- a number more in one place
pub raised : (xs : List ℕ) (p n : ℕ) → p < length xs → (k : ℕ) → slice_index (slice_set xs p (slice_index xs p + n)) k ≡ slice_index xs k + slice_index (single p n) k
raised [] p n there k = absurd (omega arith)
raised (x ∷ xs) zero n there zero = refl
raised (x ∷ xs) zero n there (suc k) = let z = none_at k in omega arith
raised (x ∷ xs) (suc p) n there zero = omega arith
raised (x ∷ xs) (suc p) n there (suc k) = raised xs p n (omega arith) k

-- nothing more in one place
pub raised_none : (xs : List ℕ) (p : ℕ) → p < length xs → slice_set xs p (slice_index xs p + 0) ≡ xs
raised_none [] p there = absurd (omega arith)
raised_none (x ∷ xs) zero there = let e : x + 0 ≡ x = omega arith in ap (λ (y : ℕ). y ∷ xs) e
raised_none (x ∷ xs) (suc p) there = ap (λ (ys : List ℕ). x ∷ ys) (raised_none xs p (omega arith))

-- a single number, place by place, at most, and added to another
pub single_at : (p n k : ℕ) → slice_index (single p n) k ≡ (if k == p then n else 0)
single_at zero n zero = refl
single_at zero n (suc k) = none_at k ∙ sym (ap (λ (b : Bool). if b then n else 0) (eqb-suc-zero k))
single_at (suc p) n zero = sym (ap (λ (b : Bool). if b then n else 0) (eqb-zero-suc p))
single_at (suc p) n (suc k) = single_at p n k ∙ sym (ap (λ (b : Bool). if b then n else 0) (eqb-suc-suc k p))

single_most : (p n k : ℕ) → slice_index (single p n) k ≤ n
single_most zero n zero = omega arith
single_most zero n (suc k) = let z = none_at k in omega arith
single_most (suc p) n zero = omega arith
single_most (suc p) n (suc k) = single_most p n k

single_plus : (p a b : ℕ) → add_each (single p a) (single p b) ≡ single p (a + b)
single_plus zero a b = refl
single_plus (suc p) a b = ap (λ (xs : List ℕ). 0 ∷ xs) (single_plus p a b)

-- what is counted at a place, added up
pub counted_plus : (p : ℕ) (a b : Totals) → add_rows (counted_at p a) (counted_at p b) ≡ counted_at p (plus a b)
counted_plus p a b =
    let ins = single_plus p a.received b.received in
    let more : (a.sent + a.answered) + (b.sent + b.answered) ≡ (a.sent + b.sent) + (a.answered + b.answered) = omega arith in
    let outs = single_plus p (a.sent + a.answered) (b.sent + b.answered) ∙ ap (single p) more in
    λ i. rows_of (ins i) (outs i)

-- rows with nothing more, and rows with more
pub none_more : (p k : ℕ) → slice_index (single p 0) k ≡ 0
none_more zero zero = refl
none_more zero (suc k) = none_at k
none_more (suc p) zero = refl
none_more (suc p) (suc k) = none_more p k

pub unraised : (p : ℕ) (counts : Totals) (t : Table) → counts ≡ nothing → AreRaised p counts t t
unraised p counts t is =
    let z : (k : ℕ) → slice_index (single p 0) k ≡ 0 = none_more p in
    subst (λ (c : Totals). AreRaised p c t t) (sym is) (record { inputs = λ k. let e = z k in omega arith; outputs = λ k. let e = z k in omega arith })

pub first_rows : (n : ℕ) (counts : Totals) (inputs outputs : List ℕ) → counts ≡ nothing → inputs ≡ replicate n 0 → outputs ≡ replicate n 0 → AreRaised 0 counts no_rows (rows_of inputs outputs)
first_rows n counts inputs outputs is ins outs =
    let zeros : AreRaised 0 nothing no_rows (rows_of (replicate n 0) (replicate n 0)) = record {
      inputs = λ k. let a = zero_of n k in let b = none_at k in let e = none_more 0 k in omega arith;
      outputs = λ k. let a = zero_of n k in let b = none_at k in let e = none_more 0 k in omega arith;
    } in
    subst (λ (c : Totals). AreRaised 0 c no_rows (rows_of inputs outputs)) (sym is) (subst (λ (t : Table). AreRaised 0 nothing no_rows t) (λ i. rows_of (sym ins i) (sym outs i)) zeros)

pub raised_up : (p : ℕ) (counts : Totals) (a b : Table) → AreRaised p counts a b → AreUpTo a b
raised_up p counts a b up = record { inputs = λ k. let e = up.inputs k in omega arith; outputs = λ k. let e = up.outputs k in omega arith }

-- what stands in rows is within what was posted
pub none_within : (t : Totals) → AreWithin no_rows t
none_within t = record { inputs = λ k. let z = none_at k in omega arith; outputs = λ k. let z = none_at k in omega arith }

pub counted_within : (p : ℕ) (t : Totals) → AreWithin (counted_at p t) t
counted_within p t = record { inputs = λ k. single_most p t.received k; outputs = λ k. single_most p (t.sent + t.answered) k }

pub sum_within : (a b : Table) (s t : Totals) → AreWithin a s → AreWithin b t → AreWithin (add_rows a b) (plus s t)
sum_within a b s t p q = record {
  inputs = λ k. let e = each_at a.inputs b.inputs k in let x = p.inputs k in let y = q.inputs k in omega arith;
  outputs = λ k. let e = each_at a.outputs b.outputs k in let x = p.outputs k in let y = q.outputs k in omega arith;
}

pub sum_of_none : (n : ℕ) → sum (replicate n 0) ≡ 0
sum_of_none n = let s = sum_by-replicate (λ (x : ℕ). x) n 0 in omega arith
