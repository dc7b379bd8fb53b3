-- One count more on a share.
use Rattle.std.proofs.Common.{◌≡◌, ◌⊎◌, inl, inr, ℕ, zero, suc, ◌+◌, ◌-◌, ◌<◌, ◌≤◌, Bool, eqb, cond, List, [], ◌∷◌, ◌++◌, length, replicate, slice_index_or, slice_set, refl, sym, ap, subst, ◌∙◌, arith, append-nil}
use Rattle.std.proofs.lemmas.Bool.{cases_eq, ne_eqb, eq-eqb}
use Rattle.order_laws.proofs.Sums.{total-append}
use Rattle.process_packet.specs.Cause.{causes, number_of}
use Rattle.process_packet.specs.Totals.{dropped_for}
use Rattle.process_packet.specs.declared.cause.Cause.{Cause}
use Rattle.process_packet.specs.declared.cause.Cause.TheVariants as cause
use Rattle.process_packet.specs.declared.totals.Totals.{Totals}
use Rattle.packet_ledger.specs.Amounts.{add_each, count_at, nothing, plus}
use Rattle.packet_ledger.specs.Share.{Held, new_share, counting, emptied, with_fate, with_received, with_sent, with_answered}
use Rattle.router_rules.specs.Rules.{kinds}
use Rattle.worker_laws.specs.Counting.{Count, Received, Sent, Replied, Dropped}
use Rattle.router_rules.specs.Causes.{booked_as}
use Rattle.worker_order.specs.Shares.{counts_at, times, Counts, raise, raise_all}

no : (a b : ℕ) → (a ≡ b → ⊥) → cond (eqb a b) 1 0 ≡ zero
no a b n = ap (λ (c : Bool). cond c 1 0) (ne_eqb a b n)

-- a list of numbers with one more at a place
set_more : (xs : List ℕ) (n k : ℕ) → n < length xs → slice_index_or (slice_set xs n (slice_index_or xs n 0 + 1)) k 0 ≡ slice_index_or xs k 0 + cond (eqb n k) 1 0
set_more [] n k lt = absurd (omega arith)
set_more (x ∷ xs) zero zero lt = refl
set_more (x ∷ xs) zero (suc k) lt = let z = no 0 (suc k) (λ e. omega arith) in omega (arith, z)
set_more (x ∷ xs) (suc n) zero lt = let z = no (suc n) 0 (λ e. omega arith) in omega (arith, z)
set_more (x ∷ xs) (suc n) (suc k) lt = set_more xs n k (omega arith) ∙ ap (λ (b : Bool). slice_index_or xs k 0 + cond b 1 0) (next (cases_eq n k))
  where
    next : (n ≡ k) ⊎ (n ≡ k → ⊥) → eqb n k ≡ eqb (suc n) (suc k)
    next (inl e) = eq-eqb n k e ∙ sym (eq-eqb (suc n) (suc k) (ap suc e))
    next (inr d) = ne_eqb n k d ∙ sym (ne_eqb (suc n) (suc k) (λ e. d (omega arith)))

set_long : (xs : List ℕ) (n x : ℕ) → length (slice_set xs n x) ≡ length xs
set_long [] n x = refl
set_long (y ∷ ys) zero x = omega arith
set_long (y ∷ ys) (suc n) x = let r = set_long ys n x in omega arith

add_at : (xs ys : List ℕ) (k : ℕ) → length xs ≡ length ys → slice_index_or (add_each xs ys) k 0 ≡ slice_index_or xs k 0 + slice_index_or ys k 0
add_at [] [] k e = refl
add_at [] (y ∷ ys) k e = absurd (omega arith)
add_at (x ∷ xs) [] k e = absurd (omega arith)
add_at (x ∷ xs) (y ∷ ys) zero e = refl
add_at (x ∷ xs) (y ∷ ys) (suc k) e = add_at xs ys k (omega arith)

add_long : (xs ys : List ℕ) → length xs ≡ length ys → length (add_each xs ys) ≡ length xs
add_long [] [] e = refl
add_long [] (y ∷ ys) e = absurd (omega arith)
add_long (x ∷ xs) [] e = absurd (omega arith)
add_long (x ∷ xs) (y ∷ ys) e = let r = add_long xs ys (omega arith) in omega arith

-- counts of all causes, added
pub sum_at : (a b : Totals) → length a.dropped ≡ length b.dropped → (i : ℕ) → count_at i (plus a b) ≡ count_at i a + count_at i b
sum_at a b long zero = refl
sum_at a b long (suc zero) = refl
sum_at a b long (suc (suc zero)) = refl
sum_at a b long (suc (suc (suc k))) = add_at a.dropped b.dropped k long

pub sum_long : (a b : Totals) → length a.dropped ≡ length b.dropped → length (plus a b).dropped ≡ length a.dropped
sum_long a b long = add_long a.dropped b.dropped long

pub number_small : (why : Cause) → (1 ≤ number_of why) × (number_of why ≤ causes)
number_small cause.Short = (omega arith, omega arith)
number_small cause.Version = (omega arith, omega arith)
number_small cause.PathType = (omega arith, omega arith)
number_small cause.Header = (omega arith, omega arith)
number_small cause.Path = (omega arith, omega arith)
number_small cause.Peering = (omega arith, omega arith)
number_small cause.UnderlaySource = (omega arith, omega arith)
number_small cause.PathEnd = (omega arith, omega arith)
number_small cause.NoAnswer = (omega arith, omega arith)
number_small cause.NoWayBack = (omega arith, omega arith)
number_small cause.TooLong = (omega arith, omega arith)
number_small cause.ProcessorFull = (omega arith, omega arith)
number_small cause.LinkFull = (omega arith, omega arith)
number_small cause.AnswerFull = (omega arith, omega arith)
number_small cause.NoMemory = (omega arith, omega arith)
number_small cause.Closed = (omega arith, omega arith)
number_small cause.SendFailed = (omega arith, omega arith)
number_small cause.NoBuffer = (omega arith, omega arith)
number_small cause.OneHopEnds = (omega arith, omega arith)
number_small cause.OneHopField = (omega arith, omega arith)
number_small cause.OneHopHost = (omega arith, omega arith)

-- one drop more
fate_at : (t : Totals) (why : Cause) → length t.dropped ≡ causes → (i : ℕ) → count_at i (with_fate why t) ≡ count_at i t + cond (eqb (2 + number_of why) i) 1 0
fate_at t why long zero = omega (arith, no (2 + number_of why) 0 (λ e. omega arith))
fate_at t why long (suc zero) = omega (arith, no (2 + number_of why) 1 (λ e. let s = (number_small why).0 in omega arith))
fate_at t why long (suc (suc zero)) = omega (arith, no (2 + number_of why) 2 (λ e. let s = (number_small why).0 in omega arith))
fate_at t why long (suc (suc (suc k))) =
    let s = number_small why in
    let n : number_of why - 1 < length t.dropped = omega arith in
    set_more t.dropped (number_of why - 1) k n ∙ ap (λ (b : Bool). slice_index_or t.dropped k 0 + cond b 1 0) (same (cases_eq (number_of why - 1) k))
  where
    same : (number_of why - 1 ≡ k) ⊎ (number_of why - 1 ≡ k → ⊥) → eqb (number_of why - 1) k ≡ eqb (2 + number_of why) (suc (suc (suc k)))
    same (inl e) = let s = number_small why in eq-eqb (number_of why - 1) k e ∙ sym (eq-eqb (2 + number_of why) (suc (suc (suc k))) (omega arith))
    same (inr n) = let s = number_small why in ne_eqb (number_of why - 1) k n ∙ sym (ne_eqb (2 + number_of why) (suc (suc (suc k))) (λ e. n (omega arith)))

received_at : (t : Totals) (i : ℕ) → count_at i (with_received 1 t) ≡ count_at i t + cond (eqb 0 i) 1 0
received_at t zero = refl
received_at t (suc zero) = omega (arith, no 0 1 (λ e. omega arith))
received_at t (suc (suc zero)) = omega (arith, no 0 2 (λ e. omega arith))
received_at t (suc (suc (suc k))) = omega (arith, no 0 (suc (suc (suc k))) (λ e. omega arith))

sent_at : (t : Totals) (i : ℕ) → count_at i (with_sent t) ≡ count_at i t + cond (eqb 1 i) 1 0
sent_at t zero = omega (arith, no 1 0 (λ e. omega arith))
sent_at t (suc zero) = refl
sent_at t (suc (suc zero)) = omega (arith, no 1 2 (λ e. omega arith))
sent_at t (suc (suc (suc k))) = omega (arith, no 1 (suc (suc (suc k))) (λ e. omega arith))

answered_at : (t : Totals) (i : ℕ) → count_at i (with_answered t) ≡ count_at i t + cond (eqb 2 i) 1 0
answered_at t zero = omega (arith, no 2 0 (λ e. omega arith))
answered_at t (suc zero) = omega (arith, no 2 1 (λ e. omega arith))
answered_at t (suc (suc zero)) = refl
answered_at t (suc (suc (suc k))) = omega (arith, no 2 (suc (suc (suc k))) (λ e. omega arith))

-- any change of the share's counts
changed : (share : Held) (raised : List (Count kinds)) (k : Count kinds) (counts : Totals) → Counts share raised → ((i : ℕ) → count_at i counts ≡ count_at i share.counts + counts_at i k) → length counts.dropped ≡ causes
    → Counts (counting share counts) (raised ++ k ∷ [])
changed share raised k counts is more long = record {
  each = λ i. let a = is.each i in let b = more i in let t = total-append (counts_at i) raised (k ∷ []) in omega arith;
  held = long;
  booked = is.booked;
}

pub counts_raised : (share : Held) (raised : List (Count kinds)) (k : Count kinds) → Counts share raised → Counts (raise k share) (raised ++ k ∷ [])
counts_raised share raised Received is = changed share raised Received (with_received 1 share.counts) is (received_at share.counts) is.held
counts_raised share raised Sent is = changed share raised Sent (with_sent share.counts) is (sent_at share.counts) is.held
counts_raised share raised Replied is = changed share raised Replied (with_answered share.counts) is (answered_at share.counts) is.held
counts_raised share raised (Dropped c) is =
    changed share raised (Dropped c) (with_fate (booked_as c) share.counts) is (fate_at share.counts (booked_as c) is.held)
    (set_long share.counts.dropped (number_of (booked_as c) - 1) (dropped_for share.counts (booked_as c) + 1) ∙ is.held)

pub counts_all : (share : Held) (raised ks : List (Count kinds)) → Counts share raised → Counts (raise_all ks share) (raised ++ ks)
counts_all share raised [] is = subst (λ xs. Counts share xs) (sym (append-nil raised)) is
counts_all share raised (k ∷ ks) is = subst (λ xs. Counts (raise_all ks (raise k share)) xs) (append_one raised k ks) (counts_all (raise k share) (raised ++ k ∷ []) ks (counts_raised share raised k is))
  where
    append_one : (xs : List (Count kinds)) (k : Count kinds) (ks : List (Count kinds)) → (xs ++ k ∷ []) ++ ks ≡ xs ++ k ∷ ks
    append_one [] k ks = refl
    append_one (x ∷ xs) k ks = ap (λ (l : List (Count kinds)). x ∷ l) (append_one xs k ks)

-- the share's place stays
pub raised_place : (k : Count kinds) (share : Held) → (raise k share).place ≡ share.place
raised_place Received share = refl
raised_place Sent share = refl
raised_place Replied share = refl
raised_place (Dropped c) share = refl

pub all_place : (ks : List (Count kinds)) (share : Held) → (raise_all ks share).place ≡ share.place
all_place [] share = refl
all_place (k ∷ ks) share = all_place ks (raise k share) ∙ raised_place k share

-- only how often each count was raised is told
pub counts_same : (share : Held) (raised others : List (Count kinds)) → ((i : ℕ) → times i others ≡ times i raised) → Counts share raised → Counts share others
counts_same share raised others same is = record { each = λ i. is.each i ∙ sym (same i); held = is.held; booked = is.booked }

pub nothing_at : (i : ℕ) → count_at i nothing ≡ zero
nothing_at zero = refl
nothing_at (suc zero) = refl
nothing_at (suc (suc zero)) = refl
nothing_at (suc (suc (suc k))) = none causes k
  where
    none : (n k : ℕ) → slice_index_or (replicate n zero) k zero ≡ zero
    none zero k = refl
    none (suc n) zero = refl
    none (suc n) (suc k) = none n k

pub counts_none : (place : ℕ) → Counts (new_share place) []
counts_none place = record { each = λ i. let n = nothing_at i in omega arith; held = refl; booked = refl }

-- a post changes nothing of what was ever counted
pub counts_posted : (share : Held) (raised : List (Count kinds)) → Counts share raised → Counts (emptied share) raised
counts_posted share raised is = record {
  each = λ i. let a = is.each i in let n = nothing_at i in let p = sum_at share.posted share.counts (is.booked ∙ sym is.held) i in omega arith;
  held = refl;
  booked = sum_long share.posted share.counts (is.booked ∙ sym is.held) ∙ is.booked;
}
