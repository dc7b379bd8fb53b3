-- Counts, one by one.
use Rattle.std.proofs.Common.{◌≡◌, ◌≤◌, ℕ, zero, suc, ◌+◌, ◌-◌, List, [], ◌∷◌, length, replicate, slice_index_or, sym, refl, ap, ◌∙◌, arith}
use Rattle.std.proofs.lemmas.List.{ext_get_or}
use Rattle.process_packet.specs.Cause.{causes, number_of}
use Rattle.process_packet.specs.declared.totals.Totals.{Totals}
use Rattle.packet_ledger.specs.Amounts.{AtMost, count_at, nothing, add_each, plus}
use Rattle.packet_ledger.specs.Share.{MayRaise}
use Rattle.std.specs.Prelude.{Bool, true, false, MatchBool}

pub zero_of : (n k : ℕ) → slice_index_or {A = ℕ} (replicate n 0) k 0 ≡ 0
zero_of zero k = refl
zero_of (suc n) zero = refl
zero_of (suc n) (suc k) = zero_of n k

pub nothing_at : (i : ℕ) → count_at i nothing ≡ 0
nothing_at zero = refl
nothing_at (suc zero) = refl
nothing_at (suc (suc zero)) = refl
nothing_at (suc (suc (suc k))) = zero_of causes k

pub each_at : (xs ys : List ℕ) (k : ℕ) → slice_index_or (add_each xs ys) k 0 ≡ slice_index_or xs k 0 + slice_index_or ys k 0
each_at [] ys k = omega arith
each_at (x ∷ xs) [] k = omega arith
each_at (x ∷ xs) (y ∷ ys) zero = refl
each_at (x ∷ xs) (y ∷ ys) (suc k) = each_at xs ys k

pub plus_at : (i : ℕ) (a b : Totals) → count_at i (plus a b) ≡ count_at i a + count_at i b
plus_at zero a b = refl
plus_at (suc zero) a b = refl
plus_at (suc (suc zero)) a b = refl
plus_at (suc (suc (suc k))) a b = each_at a.dropped b.dropped k

pub length-add_each : (n : ℕ) (xs ys : List ℕ) → length xs ≡ n → length ys ≡ n → length (add_each xs ys) ≡ n
length-add_each n [] ys a b = b
length-add_each n (x ∷ xs) [] a b = a
length-add_each zero (x ∷ xs) (y ∷ ys) a b = absurd (omega arith)
length-add_each (suc n) (x ∷ xs) (y ∷ ys) a b = ap suc (length-add_each n xs ys (omega arith) (omega arith))

-- counts that agree one by one are the same
pub same_counts : (a b : Totals) → length a.dropped ≡ length b.dropped → ((i : ℕ) → count_at i a ≡ count_at i b) → a ≡ b
same_counts a b long each =
    let drops : a.dropped ≡ b.dropped = ext_get_or 0 a.dropped b.dropped long (λ k lt. each (suc (suc (suc k)))) in
    let first : a.received ≡ b.received = each 0 in let second : a.sent ≡ b.sent = each 1 in let third : a.answered ≡ b.answered = each 2 in
    λ i. record { received = first i; sent = second i; answered = third i; dropped = drops i }

pub plus_nothing : (a : Totals) → length a.dropped ≡ causes → plus a nothing ≡ a
plus_nothing a long = same_counts (plus a nothing) a (length-add_each causes a.dropped (replicate causes 0) long refl ∙ sym long) (λ i. let p = plus_at i a nothing in let z = nothing_at i in omega arith)

pub nothing_plus : (a : Totals) → length a.dropped ≡ causes → plus nothing a ≡ a
nothing_plus a long = same_counts (plus nothing a) a (length-add_each causes (replicate causes 0) a.dropped refl long ∙ sym long) (λ i. let p = plus_at i nothing a in let z = nothing_at i in omega arith)

-- an answer by cases, read otherwise
pub match_as : {P Q P' Q' : Type 0} → (b : Bool) → (P → P') → (Q → Q') → MatchBool b P Q → MatchBool b P' Q'
match_as true yes' no' m = yes' m
match_as false yes' no' m = no' m

-- without drops among what is added, those that were counted stay
pub add_none : (xs ys : List ℕ) → length xs ≡ causes → ys ≡ replicate causes 0 → add_each xs ys ≡ xs
add_none xs ys long none =
    ap (add_each xs) none ∙ ext_get_or 0 (add_each xs (replicate causes 0)) xs (length-add_each causes xs (replicate causes 0) long refl ∙ sym long) (λ k lt. let e = each_at xs (replicate causes 0) k in let z = zero_of causes k in omega arith)

-- and the sums of the others decide whether all are small enough
pub most_without : (most : ℕ) (a b : Totals) → b.dropped ≡ replicate causes 0 → AtMost most a → a.received + b.received ≤ most → a.sent + b.sent ≤ most → a.answered + b.answered ≤ most → AtMost most (plus a b)
most_without most a b none few r s w zero = r
most_without most a b none few r s w (suc zero) = s
most_without most a b none few r s w (suc (suc zero)) = w
most_without most a b none few r s w (suc (suc (suc k))) =
    let e = each_at a.dropped b.dropped k in let n = ap (λ (ys : List ℕ). slice_index_or ys k 0) none in let z = zero_of causes k in let f = few (suc (suc (suc k))) in omega arith

-- below 2^100 each count can be raised
pub may_raise : (t : Totals) → AtMost 1267650600228229401496703205375 t → MayRaise t
may_raise t most = (
  (let a = most 0 in omega arith),
  (let a = most 1 in omega arith),
  (let a = most 2 in omega arith),
  λ cause. let a = most (suc (suc (suc (number_of cause - 1)))) in omega arith,
)
