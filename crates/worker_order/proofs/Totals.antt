-- What all shares counted, count by count.
use Rattle.std.proofs.Common.{◌≡◌, ◌⊎◌, inl, inr, ℕ, zero, suc, ◌+◌, ◌-◌, ◌<◌, ◌≤◌, Bool, true, false, eqb, cond, List, [], ◌∷◌, length, Some, slice_get, slice_index_or, refl, sym, ap, ◌∙◌, arith}
use Rattle.std.specs.Prelude.{fold}
use Rattle.order_laws.specs.Counts.{total, count}
use Rattle.order_laws.specs.Rules.{Rules}
use Rattle.order_laws.specs.Item.{Arrival}
use Rattle.order_laws.specs.Deeds.{Each, Ending, Accepted, Refused, Lacked, Counted, Deed, if_counted}
use Rattle.order_laws.specs.Settled.{SlowPathRequest, Views}
use Rattle.order_laws.specs.Counted.{sum_to, SlowViews, full_processors, full_links, full_slow}
use Rattle.std.proofs.lemmas.Bool.{cases_eq, ne_eqb, eq-eqb}
use Rattle.order_laws.proofs.Counted.{sum_below, sum_add, sum_zero, sum_one}
use Rattle.order_laws.proofs.Stages.{each_map}
use Rattle.order_laws.proofs.Sums.{count-total}
use Rattle.process_packet.specs.Cause.{causes, number_of}
use Rattle.process_packet.specs.Totals.{dropped_for}
use Rattle.process_packet.specs.declared.cause.Cause.{Cause}
use Rattle.process_packet.specs.declared.cause.Cause.TheVariants as cause
use Rattle.process_packet.specs.declared.config.Config.{Config}
use Rattle.process_packet.specs.declared.totals.Totals.{Totals}
use Rattle.packet_ledger.specs.Amounts.{count_at, nothing, plus}
use Rattle.packet_ledger.specs.Share.{Held, posted_by, counts_of}
use Rattle.router_rules.specs.Laws.{is_decided, is_withheld, CausesAreApart}
use Rattle.router_rules.specs.Rules.{kinds, rules}
use Rattle.worker_laws.specs.Forwards.{Handed}
use Rattle.worker_laws.specs.Counting.{Count, Received, Sent, Replied, Dropped}
use Rattle.worker_laws.specs.Reasons.{HasReasons}
use Rattle.worker_laws.specs.Causes.{when, was_counted, counted_in, was_sent, was_replied, was_refused, all_counts, by_cause, received_count, ruled_count, no_buffer_count, went_count, swept_count, is_received, is_sent, is_replied, is_dropped, HasCounts}
use Rattle.router_rules.specs.Causes.{booked_as}
use Rattle.worker_order.specs.Shares.{place_of, counts_at, times}
use Rattle.worker_order.specs.Totals.{AreCounted, totals_of, same_cause, is_for, decided_count, HasTotals}
use Rattle.worker_laws.proofs.Sums.{over}
use Rattle.worker_order.proofs.Shares.{sum_at, sum_long, nothing_at, number_small}

-- ---- sums of shares

module _ (f : Held → Totals) where
  abbrev AllLong : List Held → Type 0
  AllLong [] = Unit {0}
  AllLong (s ∷ shares) = (length (f s).dropped ≡ causes) × AllLong shares

  fold_long : (shares : List Held) (z : Totals) → length z.dropped ≡ causes → AllLong shares → length (fold (λ (t : Totals) (s : Held). plus t (f s)) z shares).dropped ≡ causes
  fold_long [] z long all = long
  fold_long (s ∷ shares) z long all = fold_long shares (plus z (f s)) (sum_long z (f s) (long ∙ sym all.0) ∙ long) all.1

  fold_at : (shares : List Held) (z : Totals) → length z.dropped ≡ causes → AllLong shares → (i : ℕ) → count_at i (fold (λ (t : Totals) (s : Held). plus t (f s)) z shares) ≡ count_at i z + total (λ s. count_at i (f s)) shares
  fold_at [] z long all i = omega arith
  fold_at (s ∷ shares) z long all i =
      let r = fold_at shares (plus z (f s)) (sum_long z (f s) (long ∙ sym all.0) ∙ long) all.1 i in
      let a = sum_at z (f s) (long ∙ sym all.0) i in
      omega arith

posted_long : (shares : List Held) (raised : List (List (Count kinds))) → AreCounted shares raised → AllLong (λ s. s.posted) shares
posted_long [] [] c = tt
posted_long [] (ks ∷ raised) c = absurd c
posted_long (s ∷ shares) [] c = absurd c
posted_long (s ∷ shares) (ks ∷ raised) c = (c.0.booked, posted_long shares raised c.1)

counts_long : (shares : List Held) (raised : List (List (Count kinds))) → AreCounted shares raised → AllLong (λ s. s.counts) shares
counts_long [] [] c = tt
counts_long [] (ks ∷ raised) c = absurd c
counts_long (s ∷ shares) [] c = absurd c
counts_long (s ∷ shares) (ks ∷ raised) c = (c.0.held, counts_long shares raised c.1)

each_share : (i : ℕ) (shares : List Held) (raised : List (List (Count kinds))) → AreCounted shares raised → total (λ s. count_at i s.posted) shares + total (λ s. count_at i s.counts) shares ≡ total (times i) raised
each_share i [] [] c = refl
each_share i [] (ks ∷ raised) c = absurd c
each_share i (s ∷ shares) [] c = absurd c
each_share i (s ∷ shares) (ks ∷ raised) c = let r = each_share i shares raised c.1 in let a = c.0.each i in omega arith

pub shares_add_up : (shares : List Held) (raised : List (List (Count kinds))) → AreCounted shares raised → (i : ℕ) → count_at i (totals_of shares) ≡ total (times i) raised
shares_add_up shares raised c i =
    let pl = posted_long shares raised c in
    let cl = counts_long shares raised c in
    let a = fold_long (λ s. s.posted) shares nothing refl pl in
    let b = fold_long (λ s. s.counts) shares nothing refl cl in
    let x = sum_at (posted_by shares) (counts_of shares) (a ∙ sym b) i in
    let y = fold_at (λ s. s.posted) shares nothing refl pl i in
    let z = fold_at (λ s. s.counts) shares nothing refl cl i in
    let n = nothing_at i in
    let e = each_share i shares raised c in
    omega arith

totals_long : (shares : List Held) (raised : List (List (Count kinds))) → AreCounted shares raised → length (totals_of shares).dropped ≡ causes
totals_long shares raised c =
    let a = fold_long (λ s. s.posted) shares nothing refl (posted_long shares raised c) in
    let b = fold_long (λ s. s.counts) shares nothing refl (counts_long shares raised c) in
    sum_long (posted_by shares) (counts_of shares) (a ∙ sym b) ∙ a

-- ---- causes by their numbers

-- a number of a cause of the decision's or of the answers': no pipe's, no device's and not that of want of memory
abbrev IsRuledNumber : ℕ → Type 0
IsRuledNumber n = (n ≤ 11) ⊎ (19 ≤ n)

decided_is : (why : Cause) → is_decided why ≡ true → (number_of why ≤ 8) ⊎ ((number_of why ≡ 11) ⊎ (19 ≤ number_of why))
decided_is cause.Short e = inl (omega arith)
decided_is cause.Version e = inl (omega arith)
decided_is cause.PathType e = inl (omega arith)
decided_is cause.Header e = inl (omega arith)
decided_is cause.Path e = inl (omega arith)
decided_is cause.Peering e = inl (omega arith)
decided_is cause.UnderlaySource e = inl (omega arith)
decided_is cause.PathEnd e = inl (omega arith)
decided_is cause.NoAnswer e = absurd cc
decided_is cause.NoWayBack e = absurd cc
decided_is cause.TooLong e = inr (inl refl)
decided_is cause.ProcessorFull e = absurd cc
decided_is cause.LinkFull e = absurd cc
decided_is cause.AnswerFull e = absurd cc
decided_is cause.NoMemory e = absurd cc
decided_is cause.Closed e = absurd cc
decided_is cause.SendFailed e = absurd cc
decided_is cause.NoBuffer e = absurd cc
decided_is cause.OneHopEnds e = inr (inr (omega arith))
decided_is cause.OneHopField e = inr (inr (omega arith))
decided_is cause.OneHopHost e = inr (inr (omega arith))

withheld_is : (why : Cause) → is_withheld why ≡ true → (9 ≤ number_of why) × (number_of why ≤ 10)
withheld_is cause.Short e = absurd cc
withheld_is cause.Version e = absurd cc
withheld_is cause.PathType e = absurd cc
withheld_is cause.Header e = absurd cc
withheld_is cause.Path e = absurd cc
withheld_is cause.Peering e = absurd cc
withheld_is cause.UnderlaySource e = absurd cc
withheld_is cause.PathEnd e = absurd cc
withheld_is cause.NoAnswer e = (omega arith, omega arith)
withheld_is cause.NoWayBack e = (omega arith, omega arith)
withheld_is cause.TooLong e = absurd cc
withheld_is cause.ProcessorFull e = absurd cc
withheld_is cause.LinkFull e = absurd cc
withheld_is cause.AnswerFull e = absurd cc
withheld_is cause.NoMemory e = absurd cc
withheld_is cause.Closed e = absurd cc
withheld_is cause.SendFailed e = absurd cc
withheld_is cause.NoBuffer e = absurd cc
withheld_is cause.OneHopEnds e = absurd cc
withheld_is cause.OneHopField e = absurd cc
withheld_is cause.OneHopHost e = absurd cc

decided_ruled : (why : Cause) → is_decided why ≡ true → IsRuledNumber (number_of why)
decided_ruled why is = go (decided_is why is)
  where
    go : (number_of why ≤ 8) ⊎ ((number_of why ≡ 11) ⊎ (19 ≤ number_of why)) → IsRuledNumber (number_of why)
    go (inl le) = inl (omega arith)
    go (inr (inl e)) = inl (omega arith)
    go (inr (inr ge)) = inr ge

withheld_ruled : (why : Cause) → is_withheld why ≡ true → IsRuledNumber (number_of why)
withheld_ruled why is = inl (let small = (withheld_is why is).1 in omega arith)

-- and such a number is none of the places from 14 to 20
elsewhere : (n i : ℕ) → IsRuledNumber n → 14 ≤ i → i ≤ 20 → 2 + n ≡ i → ⊥
elsewhere n i (inl le) from to e = omega arith
elsewhere n i (inr ge) from to e = omega arith

apart : (a b : Cause) → is_decided a ≡ true → is_withheld b ≡ true → number_of a ≡ number_of b → ⊥
apart a b d w same = let z = withheld_is b w in go z.0 z.1 (decided_is a d)
  where
    go : 9 ≤ number_of b → number_of b ≤ 10 → (number_of a ≤ 8) ⊎ ((number_of a ≡ 11) ⊎ (19 ≤ number_of a)) → ⊥
    go from to (inl le) = omega arith
    go from to (inr (inl e)) = omega arith
    go from to (inr (inr ge)) = omega arith

dropped_at : (t : Totals) (why : Cause) → dropped_for t why ≡ count_at (2 + number_of why) t
dropped_at t cause.Short = refl
dropped_at t cause.Version = refl
dropped_at t cause.PathType = refl
dropped_at t cause.Header = refl
dropped_at t cause.Path = refl
dropped_at t cause.Peering = refl
dropped_at t cause.UnderlaySource = refl
dropped_at t cause.PathEnd = refl
dropped_at t cause.NoAnswer = refl
dropped_at t cause.NoWayBack = refl
dropped_at t cause.TooLong = refl
dropped_at t cause.ProcessorFull = refl
dropped_at t cause.LinkFull = refl
dropped_at t cause.AnswerFull = refl
dropped_at t cause.NoMemory = refl
dropped_at t cause.Closed = refl
dropped_at t cause.SendFailed = refl
dropped_at t cause.NoBuffer = refl
dropped_at t cause.OneHopEnds = refl
dropped_at t cause.OneHopField = refl
dropped_at t cause.OneHopHost = refl

abbrev at_place : ℕ → Count kinds → Bool
at_place i k = eqb (place_of k) i

total_same : {X : Type 0} (f g : X → ℕ) (xs : List X) → ((x : X) → f x ≡ g x) → total f xs ≡ total g xs
total_same f g [] e = refl
total_same f g (x ∷ xs) e = let r = total_same f g xs e in let a = e x in omega arith

times_are : (i : ℕ) (ks : List (Count kinds)) → times i ks ≡ count (at_place i) ks
times_are i ks = sym (count-total (at_place i) ks)

-- ---- sums of sums

sum_total : {X : Type 0} (n : ℕ) (g : ℕ → X → ℕ) (xs : List X) → sum_to n (λ k. total (g k) xs) ≡ total (λ x. sum_to n (λ k. g k x)) xs
sum_total n g [] = sum_zero n
sum_total n g (x ∷ xs) = let r = sum_total n g xs in let a = sum_add n (λ k. g k x) (λ k. total (g k) xs) in omega arith

index_is : (xs : List ℕ) (k x : ℕ) → slice_get xs k ≡ Some x → slice_index_or xs k 0 ≡ x
index_is [] k x at = absurd cc
index_is (y ∷ xs) zero x at = let same : y ≡ x = cc in same
index_is (y ∷ xs) (suc k) x at = index_is xs k x at

-- each count of a drop is that of one cause
one_place : (k : Count kinds) → sum_to causes (λ j. counts_at (3 + j) k) ≡ cond (is_dropped k) 1 0
one_place Received = sum_below causes (λ j. counts_at (3 + j) Received) (λ j. 0) (λ j lt. ap (λ (b : Bool). cond b 1 0) (ne_eqb 0 (3 + j) (λ e. omega arith))) ∙ sum_zero causes
one_place Sent = sum_below causes (λ j. counts_at (3 + j) Sent) (λ j. 0) (λ j lt. ap (λ (b : Bool). cond b 1 0) (ne_eqb 1 (3 + j) (λ e. omega arith))) ∙ sum_zero causes
one_place Replied = sum_below causes (λ j. counts_at (3 + j) Replied) (λ j. 0) (λ j lt. ap (λ (b : Bool). cond b 1 0) (ne_eqb 2 (3 + j) (λ e. omega arith))) ∙ sum_zero causes
one_place (Dropped c) =
    let n : ℕ = number_of (booked_as c) in
    let small = number_small (booked_as c) in
    sum_below causes (λ j. counts_at (3 + j) (Dropped c)) (λ j. cond (eqb (n - 1) j) 1 0) (λ j lt. ap (λ (b : Bool). cond b 1 0) (same j (cases_eq (number_of (booked_as c) - 1) j))) ∙ sum_one causes (n - 1) 1 (omega arith)
  where
    same : (j : ℕ) → (number_of (booked_as c) - 1 ≡ j) ⊎ (number_of (booked_as c) - 1 ≡ j → ⊥) → eqb (2 + number_of (booked_as c)) (3 + j) ≡ eqb (number_of (booked_as c) - 1) j
    same j (inl e) = let s = number_small (booked_as c) in eq-eqb (2 + number_of (booked_as c)) (3 + j) (omega arith) ∙ sym (eq-eqb (number_of (booked_as c) - 1) j e)
    same j (inr n) = let s = number_small (booked_as c) in ne_eqb (2 + number_of (booked_as c)) (3 + j) (λ e. n (omega arith)) ∙ sym (ne_eqb (number_of (booked_as c) - 1) j n)

all_dropped : (ks : List (Count kinds)) → sum_to causes (λ j. times (3 + j) ks) ≡ count is_dropped ks
all_dropped ks = sum_total causes (λ j. counts_at (3 + j)) ks ∙ total_same (λ k. sum_to causes (λ j. counts_at (3 + j) k)) (λ k. cond (is_dropped k) 1 0) ks one_place ∙ sym (count-total is_dropped ks)

-- the first three places
place_received : (k : Count kinds) → counts_at 0 k ≡ cond (is_received k) 1 0
place_received Received = refl
place_received Sent = refl
place_received Replied = refl
place_received (Dropped c) = ap (λ (b : Bool). cond b 1 0) (ne_eqb (2 + number_of (booked_as c)) 0 (λ e. omega arith))

place_sent : (k : Count kinds) → counts_at 1 k ≡ cond (is_sent k) 1 0
place_sent Received = refl
place_sent Sent = refl
place_sent Replied = refl
place_sent (Dropped c) = ap (λ (b : Bool). cond b 1 0) (ne_eqb (2 + number_of (booked_as c)) 1 (λ e. omega arith))

place_replied : (k : Count kinds) → counts_at 2 k ≡ cond (is_replied k) 1 0
place_replied Received = refl
place_replied Sent = refl
place_replied Replied = refl
place_replied (Dropped c) = ap (λ (b : Bool). cond b 1 0) (ne_eqb (2 + number_of (booked_as c)) 2 (λ e. let s = (number_small (booked_as c)).0 in omega arith))

times_as : (i : ℕ) (test : Count kinds → Bool) → ((k : Count kinds) → counts_at i k ≡ cond (test k) 1 0) → (ks : List (Count kinds)) → times i ks ≡ count test ks
times_as i test same ks = total_same (counts_at i) (λ k. cond (test k) 1 0) ks same ∙ sym (count-total test ks)

eq_more : (a b : ℕ) → eqb (2 + a) (2 + b) ≡ eqb a b
eq_more a b = go (cases_eq a b)
  where
    go : (a ≡ b) ⊎ (a ≡ b → ⊥) → eqb (2 + a) (2 + b) ≡ eqb a b
    go (inl e) = eq-eqb (2 + a) (2 + b) (omega arith) ∙ sym (eq-eqb a b e)
    go (inr n) = ne_eqb (2 + a) (2 + b) (λ e. n (omega arith)) ∙ sym (ne_eqb a b n)

place_for : (why : Cause) (k : Count kinds) → counts_at (2 + number_of why) k ≡ cond (is_for why k) 1 0
place_for why Received = ap (λ (b : Bool). cond b 1 0) (ne_eqb 0 (2 + number_of why) (λ e. omega arith))
place_for why Sent = ap (λ (b : Bool). cond b 1 0) (ne_eqb 1 (2 + number_of why) (λ e. omega arith))
place_for why Replied = ap (λ (b : Bool). cond b 1 0) (ne_eqb 2 (2 + number_of why) (λ e. let s = (number_small why).0 in omega arith))
place_for why (Dropped c) = ap (λ (b : Bool). cond b 1 0) (eq_more (number_of (booked_as c)) (number_of why))

-- ---- reasons

counted_zero : {X : Type 0} (P : Cause → Type 0) (test : Cause → Bool) (log : List (Deed Cause X)) → ((c : Cause) → P c → test c ≡ false) → Each (λ (d : Deed Cause X). if_counted d.end P) log → counted_in test log ≡ 0
counted_zero P test [] none all = refl
counted_zero P test (d ∷ log) none all = let r = counted_zero P test log none all.1 in let z = go d.end all.0 in omega arith
  where
    go : (o : Ending Cause) → if_counted o P → was_counted test o ≡ zero
    go Accepted h = refl
    go Refused h = refl
    go Lacked h = refl
    go (Counted c) h = ap (λ (b : Bool). cond b 1 0) (none c h)

counted_agree : {X : Type 0} (test other : Cause → Bool) (log : List (Deed Cause X)) → ((c : Cause) → test c ≡ other c) → counted_in test log ≡ counted_in other log
counted_agree test other log same = total_same (λ d. was_counted test d.end) (λ d. was_counted other d.end) log (λ d. go d.end)
  where
    go : (o : Ending Cause) → was_counted test o ≡ was_counted other o
    go Accepted = refl
    go Refused = refl
    go Lacked = refl
    go (Counted c) = ap (λ (b : Bool). cond b 1 0) (same c)

counted_as : {P Q : Cause → Type 0} (o : Ending Cause) → ((c : Cause) → P c → Q c) → if_counted o P → if_counted o Q
counted_as Accepted f p = tt
counted_as Refused f p = tt
counted_as Lacked f p = tt
counted_as (Counted c) f p = f c p

module _ (c : Config) (v : Views kinds) (s : SlowViews kinds) (apart_is : CausesAreApart) (reasons : HasReasons (rules c) v s) where
  abbrev R : Rules kinds
  R = rules c

  abbrev IsOwn : Cause → Type 0
  IsOwn why = is_decided why ≡ true

  abbrev IsReplys : Cause → Type 0
  IsReplys why = is_withheld why ≡ true

  received_for : (p : ℕ) → p < R.links → Each (λ (d : Deed Cause (Arrival kinds)). if_counted d.end IsOwn) (v.received p)
  received_for p lt = each_map (λ (d : Deed Cause (Arrival kinds)) h. counted_as d.end (λ why is. (apart_is c).decision d.item.datagram why is) h.1) (v.received p) (reasons.receivers p lt)

  worked_for : (i : ℕ) → i < R.processors → Each (λ (d : Deed Cause (Arrival kinds)). if_counted d.end IsOwn) (v.worked i)
  worked_for i lt = each_map (λ (d : Deed Cause (Arrival kinds)) h. counted_as d.end (λ why is. (apart_is c).decision d.item.datagram why is) h.1) (v.worked i) (reasons.processors i lt)

  answered_for : Each (λ (d : Deed Cause (SlowPathRequest kinds)). if_counted d.end IsReplys) s.worked
  answered_for = each_map (λ (d : Deed Cause (SlowPathRequest kinds)) h. counted_as d.end (λ why is. (apart_is c).reply d.item.arrival.datagram d.item.problem why is) h.1) s.worked reasons.slow

  -- no receiver and no processor counts for a cause that isn't its own, and the slow path for none but the reply's
  decided_zero : (test : Cause → Bool) → ((why : Cause) → is_decided why ≡ true → test why ≡ false) → decided_count R v test ≡ 0
  decided_zero test none =
      let a = sum_below R.links (λ p. counted_in test (v.received p)) (λ p. 0) (λ p lt. counted_zero IsOwn test (v.received p) none (received_for p lt)) in
      let b = sum_below R.processors (λ i. counted_in test (v.worked i)) (λ i. 0) (λ i lt. counted_zero IsOwn test (v.worked i) none (worked_for i lt)) in
      let y = sum_zero R.links in
      let z = sum_zero R.processors in
      omega arith

  withheld_zero : (test : Cause → Bool) → ((why : Cause) → is_withheld why ≡ true → test why ≡ false) → counted_in test s.worked ≡ 0
  withheld_zero test none = counted_zero IsReplys test s.worked none answered_for

  ruled_zero : (test : Cause → Bool) → ((why : Cause) → IsRuledNumber (number_of why) → test why ≡ false) → ruled_count R v s test ≡ 0
  ruled_zero test none =
      let a = decided_zero test (λ why is. none why (decided_ruled why is)) in
      let b = withheld_zero test (λ why is. none why (withheld_ruled why is)) in
      omega arith

  ruled_agree : (test other : Cause → Bool) → ((why : Cause) → test why ≡ other why) → ruled_count R v s test ≡ ruled_count R v s other
  ruled_agree test other same =
      let a = sum_below R.links (λ p. counted_in test (v.received p)) (λ p. counted_in other (v.received p)) (λ p lt. counted_agree test other (v.received p) same) in
      let b = sum_below R.processors (λ i. counted_in test (v.worked i)) (λ i. counted_in other (v.worked i)) (λ i lt. counted_agree test other (v.worked i) same) in
      let e = counted_agree test other s.worked same in
      omega arith

  module _ (went : ℕ → List (Handed kinds)) (counts : HasCounts R v s went) (shares : List Held) (raised : List (List (Count kinds))) (counted : AreCounted shares raised) (
      adds : (test : Count kinds → Bool) → total (λ ks. count test ks) raised ≡ all_counts R v s went test
      ) where
    abbrev t : Totals
    t = totals_of shares

    -- the count at a place
    count_is : (i : ℕ) → count_at i t ≡ by_cause R v s went (at_place i)
    count_is i = shares_add_up shares raised counted i ∙ total_same (times i) (λ ks. count (at_place i) ks) raised (times_are i) ∙ adds (at_place i) ∙ counts.each (at_place i)

    none_ruled : (i : ℕ) → 14 ≤ i → i ≤ 20 → ruled_count R v s (λ why. eqb (2 + number_of why) i) ≡ 0
    none_ruled i from to = ruled_zero (λ why. eqb (2 + number_of why) i) (λ why ruled. ne_eqb (2 + number_of why) i (elsewhere (number_of why) i ruled from to))

    first_ruled : (i : ℕ) → i ≤ 2 → ruled_count R v s (λ why. eqb (2 + number_of why) i) ≡ 0
    first_ruled i le = ruled_zero (λ why. eqb (2 + number_of why) i) (λ why is. ne_eqb (2 + number_of why) i (λ e. let small = (number_small why).0 in omega arith))

    ruled_is : (why : Cause) → IsRuledNumber (number_of why) → dropped_for t why ≡ ruled_count R v s (λ b. same_cause b why)
    ruled_is why ruled =
        let n : ℕ = number_of why in
        let least = (number_small why).0 in
        let all = dropped_at t why ∙ count_is (2 + n) in
        let same = ruled_agree (λ b. eqb (2 + number_of b) (2 + number_of why)) (λ b. same_cause b why) (λ b. eq_more (number_of b) (number_of why)) in
        let a = off 0 (2 + n) (received_count R v) (λ e. omega arith) in
        let b = off 1 (2 + n) (went_count R went was_sent) (λ e. omega arith) in
        let d = off 2 (2 + n) (went_count R went was_replied) (λ e. omega arith) in
        let e = off 14 (2 + n) (full_processors R v) (λ e. elsewhere n 14 ruled (omega arith) (omega arith) (sym e)) in
        let f = off 15 (2 + n) (full_links R v s) (λ e. elsewhere n 15 ruled (omega arith) (omega arith) (sym e)) in
        let g = off 16 (2 + n) (full_slow R v) (λ e. elsewhere n 16 ruled (omega arith) (omega arith) (sym e)) in
        let h = off 18 (2 + n) (swept_count R v) (λ e. elsewhere n 18 ruled (omega arith) (omega arith) (sym e)) in
        let k = off 19 (2 + n) (went_count R went was_refused) (λ e. elsewhere n 19 ruled (omega arith) (omega arith) (sym e)) in
        let l = off 20 (2 + n) (no_buffer_count R v) (λ e. elsewhere n 20 ruled (omega arith) (omega arith) (sym e)) in
        omega arith
      where
        off : (i j n : ℕ) → (i ≡ j → ⊥) → when (eqb i j) n ≡ 0
        off i j n ne = ap (λ (b : Bool). cond b n 0) (ne_eqb i j ne)

    dropped_by : (why : Cause) → dropped_for t why ≡ by_cause R v s went (is_for why)
    dropped_by why =
        let i : ℕ = 2 + number_of why in
        dropped_at t why
        ∙ shares_add_up shares raised counted i ∙ total_same (times i) (λ ks. count (is_for why) ks) raised (times_as i (is_for why) (place_for why)) ∙ adds (is_for why) ∙ counts.each (is_for why)

    dropped_sum : total (λ n. n) t.dropped ≡ total (λ ks. count is_dropped ks) raised
    dropped_sum =
        over (λ n. n) t.dropped (λ k. slice_index_or t.dropped k 0) (λ k x at. index_is t.dropped k x at)
        ∙ ap (λ (n : ℕ). sum_to n (λ k. slice_index_or t.dropped k 0)) (totals_long shares raised counted)
        ∙ sum_below causes (λ k. slice_index_or t.dropped k 0) (λ k. total (times (3 + k)) raised) (λ k lt. as_count k ∙ shares_add_up shares raised counted (3 + k))
        ∙ sum_total causes (λ k. times (3 + k)) raised ∙ total_same (λ ks. sum_to causes (λ j. times (3 + j) ks)) (λ ks. count is_dropped ks) raised all_dropped
      where
        as_count : (k : ℕ) → slice_index_or t.dropped k 0 ≡ count_at (3 + k) t
        as_count k = let n : 3 + k ≡ suc (suc (suc k)) = omega arith in sym (ap (λ (i : ℕ). count_at i t) n)

    pub has_totals : HasTotals c v s went t
    has_totals = record {
      received = let a = count_is 0 in let z = first_ruled 0 (omega arith) in omega arith;
      sent = let a = count_is 1 in let z = first_ruled 1 (omega arith) in omega arith;
      answered = let a = count_is 2 in let z = first_ruled 2 (omega arith) in omega arith;
      decided = λ why is.
          let a = ruled_is why (decided_ruled why is) in
          let z = withheld_zero (λ b. same_cause b why) (λ b w. ne_eqb (number_of b) (number_of why) (λ e. apart why b is w (sym e))) in omega arith;
      withheld = λ why is.
          let a = ruled_is why (withheld_ruled why is) in
          let z = decided_zero (λ b. same_cause b why) (λ b d. ne_eqb (number_of b) (number_of why) (λ e. apart b why d is e)) in omega arith;
      processor_full = let a = count_is 14 in let z = none_ruled 14 (omega arith) (omega arith) in omega arith;
      link_full = let a = count_is 15 in let z = none_ruled 15 (omega arith) (omega arith) in omega arith;
      answer_full = let a = count_is 16 in let z = none_ruled 16 (omega arith) (omega arith) in omega arith;
      no_memory = let a = count_is 17 in let z = none_ruled 17 (omega arith) (omega arith) in omega arith;
      closed = let a = count_is 18 in let z = none_ruled 18 (omega arith) (omega arith) in omega arith;
      send_failed = let a = count_is 19 in let z = none_ruled 19 (omega arith) (omega arith) in omega arith;
      no_buffer = let a = count_is 20 in let z = none_ruled 20 (omega arith) (omega arith) in omega arith;
      each = dropped_by;
      balance =
          let x = shares_add_up shares raised counted 0 ∙ total_same (times 0) (λ ks. count is_received ks) raised (times_as 0 is_received place_received) ∙ adds is_received in
          let y = shares_add_up shares raised counted 1 ∙ total_same (times 1) (λ ks. count is_sent ks) raised (times_as 1 is_sent place_sent) ∙ adds is_sent in
          let z = shares_add_up shares raised counted 2 ∙ total_same (times 2) (λ ks. count is_replied ks) raised (times_as 2 is_replied place_replied) ∙ adds is_replied in
          let d = dropped_sum ∙ adds is_dropped in
          let b = counts.balance in
          omega arith;
    }
