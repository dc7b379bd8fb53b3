-- What workers that have ended counted, cause by cause.
use Rattle.std.proofs.Common.{◌≡◌, inl, inr, ℕ, zero, suc, ◌+◌, ◌*◌, ◌<◌, Bool, true, false, not, ◌&&◌, cond, List, [], ◌∷◌, ◌++◌, map, length, refl, sym, ◌∙◌, ap, arith, length-append}
use Rattle.std.specs.List.{flat_map}
use Rattle.order_laws.specs.Kinds.{Kinds}
use Rattle.order_laws.specs.Item.{Arrival, Outgoing}
use Rattle.order_laws.specs.Rules.{Rules, Decision, Sends, Asks, Drops, IsLawful}
use Rattle.order_laws.specs.Cause.{Cause}
use Rattle.order_laws.specs.Pipes.{link_pipe}
use Rattle.order_laws.specs.Merge.{IsMerge}
use Rattle.order_laws.specs.Counts.{total, count}
use Rattle.order_laws.specs.Deeds.{Pushed, payloads, from_mark, Each, Ending, Accepted, Refused, Lacked, Counted, Deed, if_refused, done_items, refused}
use Rattle.order_laws.specs.Settled.{SlowPathRequest, to_processor, to_link, to_slow, asked_of, Views, told, IsTold}
use Rattle.order_laws.specs.Counted.{sum_to, unsent, unsent_by, is_offer, IsOne, no_side, SlowViews, Tallied, place_of, link_pipes, full_processors, full_slow, IsCounted}
use Rattle.order_laws.proofs.Counted.{sum_below, sum_add, sum_zero, counts_once}
use Rattle.order_laws.proofs.Stages.{each_map}
use Rattle.order_laws.proofs.SettledOrder.{each_both}
use Rattle.order_laws.proofs.Sums.{total-append, count-total}
use Rattle.worker_laws.specs.Receives.{lacks, was_lacked}
use Rattle.worker_laws.specs.Works.{leaves, IsOffered, LacksNothing}
use Rattle.worker_laws.specs.Answers.{to_back}
use Rattle.worker_laws.specs.Forwards.{Handed, handed_items}
use Rattle.worker_laws.specs.Weighed.{IsWeighed}
use Rattle.worker_laws.specs.Counting.{Count, Received, Sent, Replied, Dropped, dropped_by, full_by, receiver_counts, processor_counts, slow_counts, handed_count, swept_counts, counted_receiving, counted_working, counted_answering, counted_forwarding}
use Rattle.worker_laws.specs.Ended.{Ended}
use Rattle.worker_laws.specs.Causes.{when, was_counted, counted_in, was_sent, was_replied, was_refused, all_counts, received_count, ruled_count, no_buffer_count, went_count, swept_count, by_cause, is_received, is_sent, is_replied, is_dropped, CountsEachCause}
use Rattle.worker_laws.proofs.Placed.{map_offer}
use Rattle.worker_laws.proofs.Settling.{joined, weighed}
use Rattle.worker_laws.proofs.Reasons.{has_merged}

pub when_zero : (b : Bool) → when b 0 ≡ 0
when_zero true = refl
when_zero false = refl

pub when_add : (b : Bool) (m n : ℕ) → when b (m + n) ≡ when b m + when b n
when_add true m n = refl
when_add false m n = refl

pub when_sum : (b : Bool) (n : ℕ) (g : ℕ → ℕ) → sum_to n (λ k. when b (g k)) ≡ when b (sum_to n g)
when_sum true n g = refl
when_sum false n g = sum_zero n

ones : {X : Type 0} (xs : List X) → total (λ x. 1) xs ≡ length xs
ones [] = refl
ones (x ∷ xs) = let r = ones xs in omega arith

-- two pipes of each link
pub sum_pairs : (n : ℕ) (g : ℕ → ℕ) → sum_to (2 * n) g ≡ sum_to n (λ l. g (2 * l) + g (2 * l + 1))
sum_pairs zero g = refl
sum_pairs (suc n) g =
    let is : 2 * suc n ≡ suc (suc (2 * n)) = omega arith in
    let k : suc (2 * n) ≡ 2 * n + 1 = omega arith in
    let r = sum_pairs n g in
    let a = ap (λ (m : ℕ). sum_to m g) is in
    let b = ap g k in
    omega arith

module _ {C X Y Z : Type 0} (m : ℕ) (makes : ℕ → X → List Y) (side : X → List Z) where
  -- as many as were refused, where each was for one pipe
  abbrev turned : List (Deed C X) → ℕ
  turned log = sum_to m (λ k. length (flat_map (refused (makes k)) log))

  abbrev turned_one : Deed C X → ℕ
  turned_one d = sum_to m (λ k. length (refused (makes k) d))

  turned_more : (d : Deed C X) (log : List (Deed C X)) → turned (d ∷ log) ≡ turned_one d + turned log
  turned_more d log =
      sum_below m (λ k. length (flat_map (refused (makes k)) (d ∷ log))) (λ k. length (refused (makes k) d) + length (flat_map (refused (makes k)) log)) (λ k lt. length-append (refused (makes k) d) (flat_map (refused (makes k)) log))
      ∙ sum_add m (λ k. length (refused (makes k) d)) (λ k. length (flat_map (refused (makes k)) log))

abbrev was_turned : {C : Type 0} → Ending C → ℕ
was_turned Accepted = 0
was_turned Refused = 1
was_turned Lacked = 0
was_turned (Counted c) = 0

-- a refused push was one push
turned_is : {C X Y : Type 0} (m : ℕ) (makes : ℕ → X → List Y) (x : X) (o : Ending C) → is_offer o (sum_to m (λ k. length (makes k x)) + 0 ≡ 1) → sum_to m (λ k. length (if_refused o (makes k x))) ≡ was_turned o
turned_is m makes x Accepted one = sum_zero m
turned_is m makes x Refused one = omega arith
turned_is m makes x Lacked one = sum_zero m
turned_is m makes x (Counted c) one = sum_zero m

module _ {K : Kinds} (test : Count K → Bool) where
  abbrev f : Count K → ℕ
  f k = cond (test k) 1 0

  abbrev ruled : K.RuleCause → Bool
  ruled c = test (Dropped (Cause.Ruled c))

  dropped_are : (full without : Cause K) (o : Ending K.RuleCause) → total f (dropped_by full without o) ≡ when (test (Dropped full)) (was_turned o) + when (test (Dropped without)) (was_lacked o) + was_counted ruled o
  dropped_are full without Accepted = let a = when_zero (test (Dropped full)) in let b = when_zero (test (Dropped without)) in omega arith
  dropped_are full without Refused = let b = when_zero (test (Dropped without)) in omega arith
  dropped_are full without Lacked = let a = when_zero (test (Dropped full)) in omega arith
  dropped_are full without (Counted c) = let a = when_zero (test (Dropped full)) in let b = when_zero (test (Dropped without)) in omega arith

  -- ---- a receiver

  receiving : (R : Rules K) (log : List (Deed K.RuleCause (Arrival K))) → Each (IsOne R.processors (to_processor R) (no_side {X = Arrival K} {Y = SlowPathRequest K})) log
      → total f (counted_receiving log) ≡ when (test Received) (length log) + when (test (Dropped Cause.ProcessorFull)) (sum_to R.processors (λ i. length (flat_map (refused (to_processor R i)) log)))
      + when (test (Dropped Cause.NoBuffer)) (lacks log) + counted_in ruled log
  receiving R [] one =
      let a = when_zero (test Received) in
      let b = ap (when (test (Dropped Cause.ProcessorFull))) (sum_zero R.processors) ∙ when_zero (test (Dropped Cause.ProcessorFull)) in
      let c = when_zero (test (Dropped Cause.NoBuffer)) in
      omega arith
  receiving R (d ∷ log) one =
      let r = receiving R log one.1 in
      let t = turned_is R.processors (to_processor R) d.item d.end one.0 in
      let g = turned_more R.processors (to_processor R) (no_side {X = Arrival K} {Y = SlowPathRequest K}) d log in
      let here = dropped_are Cause.ProcessorFull Cause.NoBuffer d.end in
      let all = total-append f (receiver_counts d) (counted_receiving log) in
      let a = when_add (test Received) 1 (length log) in
      let b = ap (when (test (Dropped Cause.ProcessorFull))) (g ∙ ap (λ (n : ℕ). n + sum_to R.processors (λ i. length (flat_map (refused (to_processor R i)) log))) t)
      ∙ when_add (test (Dropped Cause.ProcessorFull)) (was_turned d.end) (sum_to R.processors (λ i. length (flat_map (refused (to_processor R i)) log))) in
      let c = when_add (test (Dropped Cause.NoBuffer)) (was_lacked d.end) (lacks log) in
      let n : suc (length log) ≡ 1 + length log = omega arith in
      let e = ap (when (test Received)) n in
      omega arith

  -- ---- a processor

  module _ (R : Rules K) where
    abbrev links_turned : List (Deed K.RuleCause (Arrival K)) → ℕ
    links_turned log = sum_to (link_pipes R) (λ j. length (flat_map (refused (to_link R (place_of R j))) log))

    worked_once : (x : Arrival K) (o : Ending K.RuleCause) (r : Decision K) → is_offer o (sum_to (link_pipes R) (λ j. length (to_link R (place_of R j) x)) + length (asked_of x r) ≡ 1) → LacksNothing o → is_offer o (leaves r)
        → total f (dropped_by (full_by r) Cause.NoMemory o)
        ≡ when (test (Dropped Cause.LinkFull)) (sum_to (link_pipes R) (λ j. length (if_refused o (to_link R (place_of R j) x)))) + when (test (Dropped Cause.AnswerFull)) (length (if_refused o (asked_of x r))) + was_counted ruled o
    worked_once x Accepted r one ample offers =
        let a = ap (when (test (Dropped Cause.LinkFull))) (sum_zero (link_pipes R)) ∙ when_zero (test (Dropped Cause.LinkFull)) in let b = when_zero (test (Dropped Cause.AnswerFull)) in omega arith
    worked_once x Refused (Sends l y) one ample offers =
        let is : sum_to (link_pipes R) (λ j. length (to_link R (place_of R j) x)) ≡ 1 = omega arith in
        let a = ap (when (test (Dropped Cause.LinkFull))) is in let b = when_zero (test (Dropped Cause.AnswerFull)) in omega arith
    worked_once x Refused (Asks p) one ample offers =
        let is : sum_to (link_pipes R) (λ j. length (to_link R (place_of R j) x)) ≡ 0 = omega arith in
        let a = ap (when (test (Dropped Cause.LinkFull))) is ∙ when_zero (test (Dropped Cause.LinkFull)) in omega arith
    worked_once x Refused (Drops c) one ample offers = absurd offers
    worked_once x Lacked r one ample offers = absurd ample
    worked_once x (Counted c) r one ample offers =
        let a = ap (when (test (Dropped Cause.LinkFull))) (sum_zero (link_pipes R)) ∙ when_zero (test (Dropped Cause.LinkFull)) in let b = when_zero (test (Dropped Cause.AnswerFull)) in omega arith

    -- what a processor's deeds are
    abbrev IsWhole : Deed K.RuleCause (Arrival K) → Type 0
    IsWhole d = IsOne (link_pipes R) (λ j. to_link R (place_of R j)) (to_slow R) d × LacksNothing d.end × IsOffered R d

    working : (log : List (Deed K.RuleCause (Arrival K))) → Each IsWhole log
        → total f (counted_working R log) ≡ when (test (Dropped Cause.LinkFull)) (links_turned log) + when (test (Dropped Cause.AnswerFull)) (length (flat_map (refused (to_slow R)) log)) + counted_in ruled log
    working [] whole =
        let a = ap (when (test (Dropped Cause.LinkFull))) (sum_zero (link_pipes R)) ∙ when_zero (test (Dropped Cause.LinkFull)) in let b = when_zero (test (Dropped Cause.AnswerFull)) in omega arith
    working (d ∷ log) whole =
        let r = working log whole.1 in
        let here = worked_once d.item d.end (R.decide d.item) whole.0.0 whole.0.1 whole.0.2 in
        let g = turned_more (link_pipes R) (λ j. to_link R (place_of R j)) (to_slow R) d log in
        let all = total-append f (processor_counts R d) (counted_working R log) in
        let one = sum_to (link_pipes R) (λ j. length (refused (to_link R (place_of R j)) d)) in
        let a = ap (when (test (Dropped Cause.LinkFull))) g ∙ when_add (test (Dropped Cause.LinkFull)) one (links_turned log) in
        let b = ap (when (test (Dropped Cause.AnswerFull))) (length-append (refused (to_slow R) d) (flat_map (refused (to_slow R)) log))
        ∙ when_add (test (Dropped Cause.AnswerFull)) (length (refused (to_slow R) d)) (length (flat_map (refused (to_slow R)) log)) in
        omega arith

    -- ---- the slow path

    abbrev answers_turned : List (Deed K.RuleCause (SlowPathRequest K)) → ℕ
    answers_turned log = sum_to (link_pipes R) (λ j. length (flat_map (refused (to_back R (place_of R j))) log))

    abbrev IsWholeAnswer : Deed K.RuleCause (SlowPathRequest K) → Type 0
    IsWholeAnswer d = IsOne (link_pipes R) (λ j. to_back R (place_of R j)) (no_side {X = SlowPathRequest K} {Y = SlowPathRequest K}) d × LacksNothing d.end

    answered_once : (x : SlowPathRequest K) (o : Ending K.RuleCause) → is_offer o (sum_to (link_pipes R) (λ j. length (to_back R (place_of R j) x)) + 0 ≡ 1) → LacksNothing o
        → total f (dropped_by Cause.LinkFull Cause.NoMemory o) ≡ when (test (Dropped Cause.LinkFull)) (sum_to (link_pipes R) (λ j. length (if_refused o (to_back R (place_of R j) x)))) + was_counted ruled o
    answered_once x Accepted one ample = let a = ap (when (test (Dropped Cause.LinkFull))) (sum_zero (link_pipes R)) ∙ when_zero (test (Dropped Cause.LinkFull)) in omega arith
    answered_once x Refused one ample =
        let is : sum_to (link_pipes R) (λ j. length (to_back R (place_of R j) x)) ≡ 1 = omega arith in
        let a = ap (when (test (Dropped Cause.LinkFull))) is in omega arith
    answered_once x Lacked one ample = absurd ample
    answered_once x (Counted c) one ample = let a = ap (when (test (Dropped Cause.LinkFull))) (sum_zero (link_pipes R)) ∙ when_zero (test (Dropped Cause.LinkFull)) in omega arith

    answering : (log : List (Deed K.RuleCause (SlowPathRequest K))) → Each IsWholeAnswer log → total f (counted_answering log) ≡ when (test (Dropped Cause.LinkFull)) (answers_turned log) + counted_in ruled log
    answering [] whole = let a = ap (when (test (Dropped Cause.LinkFull))) (sum_zero (link_pipes R)) ∙ when_zero (test (Dropped Cause.LinkFull)) in omega arith
    answering (d ∷ log) whole =
        let r = answering log whole.1 in
        let here = answered_once d.item d.end whole.0.0 whole.0.1 in
        let g = turned_more (link_pipes R) (λ j. to_back R (place_of R j)) (no_side {X = SlowPathRequest K} {Y = SlowPathRequest K}) d log in
        let all = total-append f (slow_counts d) (counted_answering log) in
        let one = sum_to (link_pipes R) (λ j. length (refused (to_back R (place_of R j)) d)) in
        let a = ap (when (test (Dropped Cause.LinkFull))) g ∙ when_add (test (Dropped Cause.LinkFull)) one (answers_turned log) in
        omega arith

  -- ---- a forwarder

  abbrev count_one : (Handed K → Bool) → Handed K → ℕ
  count_one was h = cond (was h) 1 0

  handed_once : (took answer : Bool) → (h : Handed K) → h.took ≡ took → h.item.answer ≡ answer
      → f (handed_count h) ≡ when (test Sent) (count_one was_sent h) + when (test Replied) (count_one was_replied h) + when (test (Dropped Cause.SendFailed)) (count_one was_refused h)
  handed_once true true h t a = rw (t, a) (let x = when_zero (test Sent) in let y = when_zero (test (Dropped Cause.SendFailed)) in omega arith)
  handed_once true false h t a = rw (t, a) (let x = when_zero (test Replied) in let y = when_zero (test (Dropped Cause.SendFailed)) in omega arith)
  handed_once false answer h t a = rw (t) (let x = when_zero (test Replied) in let y = when_zero (test Sent) in omega arith)

  handing : (went : List (Handed K)) → total f (map handed_count went) ≡ when (test Sent) (count was_sent went) + when (test Replied) (count was_replied went) + when (test (Dropped Cause.SendFailed)) (count was_refused went)
  handing went =
      let a = ap (when (test Sent)) (count-total was_sent went) in
      let b = ap (when (test Replied)) (count-total was_replied went) in
      let c = ap (when (test (Dropped Cause.SendFailed))) (count-total was_refused went) in
      go went ∙ (omega arith)
    where
      go : (xs : List (Handed K)) → total f (map handed_count xs) ≡ when (test Sent) (total (count_one was_sent) xs) + when (test Replied) (total (count_one was_replied) xs) + when (test (Dropped Cause.SendFailed)) (total (count_one was_refused) xs)
      go [] = let x = when_zero (test Sent) in let y = when_zero (test Replied) in let z = when_zero (test (Dropped Cause.SendFailed)) in omega arith
      go (h ∷ xs) =
          let r = go xs in
          let o = handed_once h.took h.item.answer h refl refl in
          let a = when_add (test Sent) (count_one was_sent h) (total (count_one was_sent) xs) in
          let b = when_add (test Replied) (count_one was_replied h) (total (count_one was_replied) xs) in
          let c = when_add (test (Dropped Cause.SendFailed)) (count_one was_refused h) (total (count_one was_refused) xs) in
          omega arith

  sweeping : (es : List (Pushed (Outgoing K))) → total f (swept_counts es) ≡ when (test (Dropped Cause.Closed)) (length (payloads (from_mark es)))
  sweeping es = go (payloads (from_mark es))
    where
      go : (os : List (Outgoing K)) → total f (map (λ (o : Outgoing K). Dropped Cause.Closed) os) ≡ when (test (Dropped Cause.Closed)) (length os)
      go [] = sym (when_zero (test (Dropped Cause.Closed)))
      go (o ∷ os) = let r = go os in let a = when_add (test (Dropped Cause.Closed)) 1 (length os) in let n : suc (length os) ≡ 1 + length os = omega arith in let e = ap (when (test (Dropped Cause.Closed))) n in omega arith

-- ---- sums over the workers

items_long : {C X : Type 0} (log : List (Deed C X)) → length (done_items log) ≡ length log
items_long [] = refl
items_long (d ∷ log) = let r = items_long log in omega arith

-- a sum of two, of three, of four
sum_2 : (n : ℕ) (g a b : ℕ → ℕ) → ((k : ℕ) → k < n → g k ≡ a k + b k) → sum_to n g ≡ sum_to n a + sum_to n b
sum_2 n g a b e = sum_below n g (λ k. a k + b k) e ∙ sum_add n a b

sum_3 : (n : ℕ) (g a b c : ℕ → ℕ) → ((k : ℕ) → k < n → g k ≡ a k + b k + c k) → sum_to n g ≡ sum_to n a + sum_to n b + sum_to n c
sum_3 n g a b c e = sum_2 n g (λ k. a k + b k) c e ∙ (let r = sum_add n a b in omega arith)

sum_4 : (n : ℕ) (g a b c d : ℕ → ℕ) → ((k : ℕ) → k < n → g k ≡ a k + b k + c k + d k) → sum_to n g ≡ sum_to n a + sum_to n b + sum_to n c + sum_to n d
sum_4 n g a b c d e = sum_3 n g (λ k. a k + b k) c d e ∙ (let r = sum_add n a b in omega arith)

one_of : {C X Y Z : Type 0} (m : ℕ) (makes : ℕ → X → List Y) (side : X → List Z) (d : Deed C X) → IsWeighed m makes side (λ x. 1) (λ y. 1) (λ z. 1) d → IsOne m makes side d
one_of m makes side d weighed = map_offer d.end
    (λ (h : sum_to m (λ k. total (λ y. 1) (makes k d.item)) + total (λ z. 1) (side d.item) ≡ 1).
    let a = sum_below m (λ k. length (makes k d.item)) (λ k. total (λ y. 1) (makes k d.item)) (λ k lt. sym (ones (makes k d.item))) in
    let b = ones (side d.item) in
    let is : sum_to m (λ k. length (makes k d.item)) + length (side d.item) ≡ 1 = omega arith in is) weighed

counted_none : {C X : Type 0} (log : List (Deed C X)) → counted_in (λ c. false) log ≡ 0
counted_none [] = refl
counted_none (d ∷ log) = let r = counted_none log in let z = go d.end in omega arith
  where
    go : {C : Type 0} (o : Ending C) → was_counted (λ c. false) o ≡ 0
    go Accepted = refl
    go Refused = refl
    go Lacked = refl
    go (Counted c) = refl

-- what was not offered was counted for a reason, or lacked a buffer
unsent_is : {C X : Type 0} (log : List (Deed C X)) → unsent log ≡ counted_in (λ c. true) log + lacks log
unsent_is [] = refl
unsent_is (d ∷ log) = let r = unsent_is log in let z = go d.end in omega arith
  where
    go : {C : Type 0} (o : Ending C) → unsent_by o ≡ was_counted (λ c. true) o + was_lacked o
    go Accepted = refl
    go Refused = refl
    go Lacked = refl
    go (Counted c) = refl

lacks_none : {C X : Type 0} (log : List (Deed C X)) → Each (λ (d : Deed C X). LacksNothing d.end) log → lacks log ≡ 0
lacks_none [] ample = refl
lacks_none (d ∷ log) ample = let r = lacks_none log ample.1 in let z = go d.end ample.0 in omega arith
  where
    go : {C : Type 0} (o : Ending C) → LacksNothing o → was_lacked o ≡ zero
    go Accepted a = refl
    go Refused a = refl
    go Lacked a = absurd a
    go (Counted c) a = refl

module _ {K : Kinds} where
  merge_long : (xs ys zs : List (Outgoing K)) → IsMerge xs ys zs → length zs ≡ length xs + length ys
  merge_long xs ys [] m = let a = ap length m.0 in let b = ap length m.1 in omega arith
  merge_long xs ys (z ∷ zs) (inl m) = let r = merge_long m.0 ys zs m.2 in let a = ap length m.1 in omega arith
  merge_long xs ys (z ∷ zs) (inr m) = let r = merge_long xs m.0 zs m.2 in let a = ap length m.1 in omega arith

  went_long : (went : List (Handed K)) → length (handed_items went) ≡ count was_sent went + count was_replied went + count was_refused went
  went_long went =
      let a = count-total was_sent went in
      let b = count-total was_replied went in
      let c = count-total was_refused went in
      go went ∙ (omega arith)
    where
      one : (took answer : Bool) → cond (took && not answer) 1 0 + cond (took && answer) 1 0 + cond (not took) 1 0 ≡ 1
      one true true = refl
      one true false = refl
      one false answer = refl

      go : (xs : List (Handed K)) → length (handed_items xs) ≡ total (λ h. cond (was_sent h) 1 0) xs + total (λ h. cond (was_replied h) 1 0) xs + total (λ h. cond (was_refused h) 1 0) xs
      go [] = refl
      go (h ∷ xs) = let r = go xs in let o = one h.took h.item.answer in omega arith

module _ {K : Kinds} (R : Rules K) (v : Views K) (s : SlowViews K) (went : ℕ → List (Handed K)) (closed : ℕ → Bool) (lawful : IsLawful R (IsTold v)) (e : Ended R v s went closed) where
  receiver_one : (p : ℕ) → p < R.links → Each (IsOne R.processors (to_processor R) (no_side {X = Arrival K} {Y = SlowPathRequest K})) (v.received p)
  receiver_one p lt = each_map (λ d h. one_of R.processors (to_processor R) (no_side {X = Arrival K} {Y = SlowPathRequest K}) d h) (v.received p) ((weighed R v s went closed lawful e (λ a n. 1)).receivers p lt)

  worker_one : (i : ℕ) → i < R.processors → Each (IsOne (link_pipes R) (λ j. to_link R (place_of R j)) (to_slow R)) (v.worked i)
  worker_one i lt = each_map (λ d h. one_of (link_pipes R) (λ j. to_link R (place_of R j)) (to_slow R) d h) (v.worked i) ((weighed R v s went closed lawful e (λ a n. 1)).workers i lt)

  slow_one : Each (IsOne (link_pipes R) (λ j. to_back R (place_of R j)) (no_side {X = SlowPathRequest K} {Y = SlowPathRequest K})) s.worked
  slow_one = each_map (λ d h. one_of (link_pipes R) (λ j. to_back R (place_of R j)) (no_side {X = SlowPathRequest K} {Y = SlowPathRequest K}) d h) s.worked ((weighed R v s went closed lawful e (λ a n. 1)).slow)

  pub tallied : Tallied R v s
  tallied =
      let j = joined R v s went closed lawful e in
      record {
        settled = e.settled;
        back = to_back R;
        slow_took = e.slow.took;
        slow_tells = e.slow.tells;
        receiver_one = receiver_one;
        worker_one = worker_one;
        slow_one = slow_one;
        requests = e.requests;
        request_only = e.request_only;
        egress_slow = j.egress_slow;
        egress_marks = j.egress_marks;
        egress_none = j.egress_none;
      }

  pub once : IsCounted R v s
  once = counts_once K R v s tallied

  module _ (test : Count K → Bool) where
    abbrev ruled_by : K.RuleCause → Bool
    ruled_by c = test (Dropped (Cause.Ruled c))

    received_all : sum_to R.links (λ p. count test (counted_receiving (v.received p)))
        ≡ when (test Received) (received_count R v) + when (test (Dropped Cause.ProcessorFull)) (full_processors R v) + when (test (Dropped Cause.NoBuffer)) (no_buffer_count R v) + sum_to R.links (λ p. counted_in ruled_by (v.received p))
    received_all =
        let parts = sum_4 R.links (λ p. count test (counted_receiving (v.received p))) (λ p. when (test Received) (length (told v p)))
        (λ p. when (test (Dropped Cause.ProcessorFull)) (sum_to R.processors (λ i. length (v.arrived_full p i)))) (λ p. when (test (Dropped Cause.NoBuffer)) (lacks (v.received p))) (λ p. counted_in ruled_by (v.received p)) (λ p lt. one p lt) in
        let a = when_sum (test Received) R.links (λ p. length (told v p)) in
        let b = when_sum (test (Dropped Cause.ProcessorFull)) R.links (λ p. sum_to R.processors (λ i. length (v.arrived_full p i))) in
        let c = when_sum (test (Dropped Cause.NoBuffer)) R.links (λ p. lacks (v.received p)) in
        omega arith
      where
        one : (p : ℕ) → p < R.links → count test (counted_receiving (v.received p))
            ≡ when (test Received) (length (told v p)) + when (test (Dropped Cause.ProcessorFull)) (sum_to R.processors (λ i. length (v.arrived_full p i))) + when (test (Dropped Cause.NoBuffer)) (lacks (v.received p)) + counted_in ruled_by (v.received p)
        one p lt =
            let law = e.settled.receivers p lt in
            let a = count-total test (counted_receiving (v.received p)) in
            let b = receiving test R (v.received p) (receiver_one p lt) in
            let c = ap (when (test Received)) (items_long (v.received p)) in
            let g = ap (when (test (Dropped Cause.ProcessorFull))) (sum_below R.processors (λ i. length (v.arrived_full p i)) (λ i. length (flat_map (refused (to_processor R i)) (v.received p))) (λ i below. ap length (law.tells i below).1)) in
            omega arith

    worked_all : sum_to R.processors (λ i. count test (counted_working R (v.worked i)))
        ≡ when (test (Dropped Cause.LinkFull)) (sum_to R.processors (λ i. sum_to (link_pipes R) (λ j. length (v.leaving_full i (place_of R j))))) + when (test (Dropped Cause.AnswerFull)) (full_slow R v)
        + sum_to R.processors (λ i. counted_in ruled_by (v.worked i))
    worked_all =
        let parts = sum_3 R.processors (λ i. count test (counted_working R (v.worked i))) (λ i. when (test (Dropped Cause.LinkFull)) (sum_to (link_pipes R) (λ j. length (v.leaving_full i (place_of R j)))))
        (λ i. when (test (Dropped Cause.AnswerFull)) (length (v.asked_full i))) (λ i. counted_in ruled_by (v.worked i)) (λ i lt. one i lt) in
        let a = when_sum (test (Dropped Cause.LinkFull)) R.processors (λ i. sum_to (link_pipes R) (λ j. length (v.leaving_full i (place_of R j)))) in
        let b = when_sum (test (Dropped Cause.AnswerFull)) R.processors (λ i. length (v.asked_full i)) in
        omega arith
      where
        one : (i : ℕ) → i < R.processors → count test (counted_working R (v.worked i))
            ≡ when (test (Dropped Cause.LinkFull)) (sum_to (link_pipes R) (λ j. length (v.leaving_full i (place_of R j)))) + when (test (Dropped Cause.AnswerFull)) (length (v.asked_full i)) + counted_in ruled_by (v.worked i)
        one i lt =
            let law = e.settled.workers i lt in
            let a = count-total test (counted_working R (v.worked i)) in
            let ample = each_both (λ (d : Deed K.RuleCause (Arrival K)). LacksNothing d.end) (IsOffered R) (v.worked i) (e.unlacked i lt) (e.offered i lt) in
            let whole = each_map (λ (d : Deed K.RuleCause (Arrival K)) h. (h.0, h.1.0, h.1.1)) (v.worked i) (each_both _ _ (v.worked i) (worker_one i lt) ample) in
            let b = working test R (v.worked i) whole in
            let c = ap (when (test (Dropped Cause.LinkFull))) (sum_below (link_pipes R) (λ j. length (v.leaving_full i (place_of R j))) (λ j. length (flat_map (refused (to_link R (place_of R j))) (v.worked i))) (λ j below. ap length (law.tells (place_of R j) (omega arith, omega arith)).1)) in
            let g = ap (λ (xs : List (SlowPathRequest K)). when (test (Dropped Cause.AnswerFull)) (length xs)) law.slow.1 in
            omega arith

    answered_all : count test (counted_answering s.worked) ≡ when (test (Dropped Cause.LinkFull)) (sum_to (link_pipes R) (λ j. length (s.leaving_full (place_of R j)))) + counted_in ruled_by s.worked
    answered_all =
        let a = count-total test (counted_answering s.worked) in
        let b = answering test R s.worked (each_both _ _ s.worked slow_one e.unlacked_slow) in
        let c = ap (when (test (Dropped Cause.LinkFull))) (sum_below (link_pipes R) (λ j. length (s.leaving_full (place_of R j))) (λ j. length (flat_map (refused (to_back R (place_of R j))) s.worked)) (λ j below. ap length (e.slow.tells (place_of R j) (omega arith, omega arith)).1)) in
        omega arith

    forwarded_all : sum_to R.links (λ l. count test (counted_forwarding (went l) (v.forwarded (link_pipe R false l)) (v.forwarded (link_pipe R true l))))
        ≡ when (test Sent) (went_count R went was_sent) + when (test Replied) (went_count R went was_replied) + when (test (Dropped Cause.SendFailed)) (went_count R went was_refused) + when (test (Dropped Cause.Closed)) (swept_count R v)
    forwarded_all =
        let parts = sum_4 R.links (λ l. count test (counted_forwarding (went l) (v.forwarded (link_pipe R false l)) (v.forwarded (link_pipe R true l)))) (λ l. when (test Sent) (count was_sent (went l))) (λ l. when (test Replied) (count was_replied (went l)))
        (λ l. when (test (Dropped Cause.SendFailed)) (count was_refused (went l))) (λ l. when (test (Dropped Cause.Closed)) (length (v.swept (place_of R (2 * l))) + length (v.swept (place_of R (2 * l + 1))))) (λ l lt. one l lt) in
        let a = when_sum (test Sent) R.links (λ l. count was_sent (went l)) in
        let b = when_sum (test Replied) R.links (λ l. count was_replied (went l)) in
        let c = when_sum (test (Dropped Cause.SendFailed)) R.links (λ l. count was_refused (went l)) in
        let g = when_sum (test (Dropped Cause.Closed)) R.links (λ l. length (v.swept (place_of R (2 * l))) + length (v.swept (place_of R (2 * l + 1)))) in
        let h = ap (when (test (Dropped Cause.Closed))) (sum_pairs R.links (λ j. length (v.swept (place_of R j)))) in
        omega arith
      where
        one : (l : ℕ) → l < R.links → count test (counted_forwarding (went l) (v.forwarded (link_pipe R false l)) (v.forwarded (link_pipe R true l)))
            ≡ when (test Sent) (count was_sent (went l)) + when (test Replied) (count was_replied (went l)) + when (test (Dropped Cause.SendFailed)) (count was_refused (went l))
            + when (test (Dropped Cause.Closed)) (length (v.swept (place_of R (2 * l))) + length (v.swept (place_of R (2 * l + 1))))
        one l lt =
            let low = v.forwarded (link_pipe R false l) in
            let high = v.forwarded (link_pipe R true l) in
            let a = count-total test (counted_forwarding (went l) low high) in
            let b = total-append (λ k. cond (test k) 1 0) (map handed_count (went l)) (swept_counts low ++ swept_counts high) in
            let c = total-append (λ k. cond (test k) 1 0) (swept_counts low) (swept_counts high) in
            let g = handing test (went l) in
            let h = sweeping test low in
            let i = sweeping test high in
            let j = when_add (test (Dropped Cause.Closed)) (length (v.swept (place_of R (2 * l)))) (length (v.swept (place_of R (2 * l + 1)))) in
            let at_low : link_pipe R false l ≡ place_of R (2 * l) = omega arith in
            let at_high : link_pipe R true l ≡ place_of R (2 * l + 1) = omega arith in
            let m = ap (λ (xs : List (Outgoing K)). when (test (Dropped Cause.Closed)) (length xs)) (sym (e.settled.forwarders (link_pipe R false l) (omega arith, omega arith)).after ∙ ap v.swept at_low) in
            let n = ap (λ (xs : List (Outgoing K)). when (test (Dropped Cause.Closed)) (length xs)) (sym (e.settled.forwarders (link_pipe R true l) (omega arith, omega arith)).after ∙ ap v.swept at_high) in
            omega arith

    pub by_causes : all_counts R v s went test ≡ by_cause R v s went test
    by_causes =
        let a = received_all in
        let b = worked_all in
        let c = answered_all in
        let g = forwarded_all in
        let h = when_add (test (Dropped Cause.LinkFull)) (sum_to R.processors (λ i. sum_to (link_pipes R) (λ j. length (v.leaving_full i (place_of R j))))) (sum_to (link_pipes R) (λ j. length (s.leaving_full (place_of R j)))) in
        omega arith

  ruled_none : ruled_count R v s (λ c. false) ≡ 0
  ruled_none =
      let a = sum_below R.links (λ p. counted_in (λ c. false) (v.received p)) (λ p. 0) (λ p lt. counted_none (v.received p)) in
      let b = sum_below R.processors (λ i. counted_in (λ c. false) (v.worked i)) (λ i. 0) (λ i lt. counted_none (v.worked i)) in
      let c = counted_none s.worked in
      let y = sum_zero R.links in
      let z = sum_zero R.processors in
      omega arith

  handed_all : sum_to (link_pipes R) (λ j. length (v.handed (place_of R j))) ≡ went_count R went was_sent + went_count R went was_replied + went_count R went was_refused
  handed_all =
      let a = sum_pairs R.links (λ j. length (v.handed (place_of R j))) in
      let b = sum_3 R.links (λ l. length (v.handed (place_of R (2 * l))) + length (v.handed (place_of R (2 * l + 1)))) (λ l. count was_sent (went l)) (λ l. count was_replied (went l)) (λ l. count was_refused (went l)) (λ l lt. one l lt) in
      omega arith
    where
      one : (l : ℕ) → l < R.links → length (v.handed (place_of R (2 * l))) + length (v.handed (place_of R (2 * l + 1))) ≡ count was_sent (went l) + count was_replied (went l) + count was_refused (went l)
      one l lt =
          let m = (has_merged R v s went closed lawful e l lt).merged in
          let a = merge_long (v.handed (link_pipe R false l)) (v.handed (link_pipe R true l)) (handed_items (went l)) m in
          let b = went_long (went l) in
          let at_low : link_pipe R false l ≡ place_of R (2 * l) = omega arith in
          let at_high : link_pipe R true l ≡ place_of R (2 * l + 1) = omega arith in
          let c = ap (λ (q : ℕ). length (v.handed q)) at_low in
          let d = ap (λ (q : ℕ). length (v.handed q)) at_high in
          omega arith

  pub balance : all_counts R v s went is_received ≡ all_counts R v s went is_sent + all_counts R v s went is_replied + all_counts R v s went is_dropped
  balance =
      let a = by_causes is_received in
      let b = by_causes is_sent in
      let c = by_causes is_replied in
      let d = by_causes is_dropped in
      let none = ruled_none in
      let h = handed_all in
      let o = once in
      let r = sum_below R.links (λ p. length (told v p)) (λ p. length (v.received p)) (λ p lt. items_long (v.received p)) in
      let x = sum_2 R.links (λ p. unsent (v.received p)) (λ p. counted_in (λ c. true) (v.received p)) (λ p. lacks (v.received p)) (λ p lt. unsent_is (v.received p)) in
      let y = sum_below R.processors (λ i. unsent (v.worked i)) (λ i. counted_in (λ c. true) (v.worked i)) (λ i lt. let u = unsent_is (v.worked i) in let z = lacks_none (v.worked i) (e.unlacked i lt) in omega arith) in
      let u = unsent_is s.worked in
      let z = lacks_none s.worked e.unlacked_slow in
      omega arith

pub counts_each_cause : (K : Kinds) → CountsEachCause K
counts_each_cause K R v s went closed lawful e = record { each = by_causes R v s went closed lawful e; balance = balance R v s went closed lawful e; once = once R v s went closed lawful e }
