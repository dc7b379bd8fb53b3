-- One deed more is counted.
use Rattle.std.proofs.Common.{◌≡◌, ℕ, ◌+◌, Bool, true, false, ◌||◌, cond, List, [], ◌∷◌, ◌++◌, map, refl, sym, ◌∙◌, ap, arith, append-nil}
use Rattle.std.specs.List.{flat_map}
use Rattle.std.proofs.lemmas.Grind.{flat_map-append}
use Rattle.std.proofs.lemmas.List.{map-append}
use Rattle.order_laws.specs.Kinds.{Kinds}
use Rattle.order_laws.specs.Item.{Arrival, Outgoing}
use Rattle.order_laws.specs.Rules.{Rules}
use Rattle.order_laws.specs.Cause.{Cause}
use Rattle.order_laws.specs.Counts.{total}
use Rattle.order_laws.specs.Deeds.{Pushed, payload_of, payloads, closes, has_mark, from_mark, Deed}
use Rattle.order_laws.specs.Settled.{SlowPathRequest}
use Rattle.order_laws.proofs.Sums.{total-append}
use Rattle.order_laws.proofs.Turns.{from_more}
use Rattle.order_laws.proofs.Joints.{never_closed}
use Rattle.worker_laws.specs.Forwards.{Handed}
use Rattle.worker_laws.specs.Counting.{Count, Dropped, receiver_counts, processor_counts, slow_counts, handed_count, swept_counts, counted_receiving, counted_working, counted_answering, counted_forwarding}

one : {A B : Type 0} (g : A → List B) (xs : List A) (x : A) → flat_map g (xs ++ x ∷ []) ≡ flat_map g xs ++ g x
one g xs x = flat_map-append g xs (x ∷ []) ∙ ap (λ (ys : List _). flat_map g xs ++ ys) (append-nil (g x))

module _ {K : Kinds} where
  pub receiving_more : (log : List (Deed K.RuleCause (Arrival K))) (d : Deed K.RuleCause (Arrival K)) → counted_receiving {K = K} (log ++ d ∷ []) ≡ counted_receiving {K = K} log ++ receiver_counts {K = K} d
  receiving_more log d = one (receiver_counts {K = K}) log d

  pub working_more : (R : Rules K) (log : List (Deed K.RuleCause (Arrival K))) (d : Deed K.RuleCause (Arrival K)) → counted_working R (log ++ d ∷ []) ≡ counted_working R log ++ processor_counts R d
  working_more R log d = one (processor_counts R) log d

  pub answering_more : (log : List (Deed K.RuleCause (SlowPathRequest K))) (d : Deed K.RuleCause (SlowPathRequest K)) → counted_answering {K = K} (log ++ d ∷ []) ≡ counted_answering {K = K} log ++ slow_counts {K = K} d
  answering_more log d = one (slow_counts {K = K}) log d

  -- an entry after the closing mark
  swept_one : (f : Count K → ℕ) (es : List (Pushed (Outgoing K))) (e : Pushed (Outgoing K)) (o : Outgoing K) → has_mark es ≡ true → payload_of e.load ≡ o ∷ []
      → total f (swept_counts (es ++ e ∷ [])) ≡ total f (swept_counts es) + f (Dropped Cause.Closed)
  swept_one f es e o shut is =
      let after : from_mark (es ++ e ∷ []) ≡ from_mark es ++ e ∷ [] = from_more es e ∙ rw (shut) refl in
      let more : payloads (from_mark (es ++ e ∷ [])) ≡ payloads (from_mark es) ++ o ∷ [] =
      ap payloads after ∙ one (λ (p : Pushed (Outgoing K)). payload_of p.load) (from_mark es) e ∙ ap (λ (ys : List (Outgoing K)). payloads (from_mark es) ++ ys) is in
      let g : Outgoing K → Count K = λ o. Dropped Cause.Closed in
      let same = ap (λ (ys : List (Outgoing K)). total f (map g ys)) more ∙ ap (total f) (map-append g (payloads (from_mark es)) (o ∷ [])) in
      let sum = total-append f (map g (payloads (from_mark es))) (map g (o ∷ [])) in
      omega arith

  -- an entry before it
  swept_open : (es : List (Pushed (Outgoing K))) (e : Pushed (Outgoing K)) → has_mark es ≡ false → closes e.load ≡ false → swept_counts (es ++ e ∷ []) ≡ swept_counts es
  swept_open es e unshut not_mark =
      let after : from_mark (es ++ e ∷ []) ≡ [] = from_more es e ∙ rw (unshut, not_mark) refl in
      ap (λ (xs : List (Pushed (Outgoing K))). map (λ (o : Outgoing K). Dropped Cause.Closed) (payloads xs)) (after ∙ sym (never_closed es unshut))

  -- a mark
  swept_mark : (es : List (Pushed (Outgoing K))) (e : Pushed (Outgoing K)) → payload_of e.load ≡ [] → swept_counts (es ++ e ∷ []) ≡ swept_counts es
  swept_mark es e none = ap (λ (xs : List (Outgoing K)). map (λ (o : Outgoing K). Dropped Cause.Closed) xs) (ap payloads (from_more es e) ∙ go (has_mark es) (closes e.load) refl)
    where
      go : (b c : Bool) → has_mark es ≡ b → payloads (cond (b || c) (from_mark es ++ e ∷ []) []) ≡ payloads (from_mark es)
      go true c is = one (λ (p : Pushed (Outgoing K)). payload_of p.load) (from_mark es) e ∙ ap (λ (ys : List (Outgoing K)). payloads (from_mark es) ++ ys) none ∙ append-nil (payloads (from_mark es))
      go false true is = one (λ (p : Pushed (Outgoing K)). payload_of p.load) (from_mark es) e ∙ ap (λ (ys : List (Outgoing K)). payloads (from_mark es) ++ ys) none ∙ append-nil (payloads (from_mark es))
      go false false is = ap payloads (sym (never_closed es is))

  module _ (f : Count K → ℕ) where
    -- how it splits
    forwarded : (went : List (Handed K)) (low high : List (Pushed (Outgoing K))) → total f (counted_forwarding went low high) ≡ total f (map handed_count went) + (total f (swept_counts low) + total f (swept_counts high))
    forwarded went low high =
        let a = total-append f (map handed_count went) (swept_counts low ++ swept_counts high) in
        let b = total-append f (swept_counts low) (swept_counts high) in
        omega arith

    handed_one : (went : List (Handed K)) (h : Handed K) → total f (map handed_count (went ++ h ∷ [])) ≡ total f (map handed_count went) + f (handed_count h)
    handed_one went h =
        let a = ap (total f) (map-append handed_count went (h ∷ [])) in
        let b = total-append f (map handed_count went) (map handed_count (h ∷ [])) in
        omega arith

    module _ (went : List (Handed K)) (low high : List (Pushed (Outgoing K))) (e : Pushed (Outgoing K)) where
      -- one handed to the sink is counted
      pub forwarding_low : (h : Handed K) → has_mark low ≡ false → closes e.load ≡ false → total f (counted_forwarding (went ++ h ∷ []) (low ++ e ∷ []) high) ≡ total f (counted_forwarding went low high) + f (handed_count h)
      forwarding_low h unshut not_mark =
          let a = forwarded (went ++ h ∷ []) (low ++ e ∷ []) high in
          let b = forwarded went low high in
          let c = ap (total f) (swept_open low e unshut not_mark) in
          let d = handed_one went h in
          omega arith

      pub forwarding_high : (h : Handed K) → has_mark high ≡ false → closes e.load ≡ false → total f (counted_forwarding (went ++ h ∷ []) low (high ++ e ∷ [])) ≡ total f (counted_forwarding went low high) + f (handed_count h)
      forwarding_high h unshut not_mark =
          let a = forwarded (went ++ h ∷ []) low (high ++ e ∷ []) in
          let b = forwarded went low high in
          let c = ap (total f) (swept_open high e unshut not_mark) in
          let d = handed_one went h in
          omega arith

      -- one swept is counted
      pub sweeping_low : (o : Outgoing K) → has_mark low ≡ true → payload_of e.load ≡ o ∷ [] → total f (counted_forwarding went (low ++ e ∷ []) high) ≡ total f (counted_forwarding went low high) + f (Dropped Cause.Closed)
      sweeping_low o shut is =
          let a = forwarded went (low ++ e ∷ []) high in
          let b = forwarded went low high in
          let c = swept_one f low e o shut is in
          omega arith

      pub sweeping_high : (o : Outgoing K) → has_mark high ≡ true → payload_of e.load ≡ o ∷ [] → total f (counted_forwarding went low (high ++ e ∷ [])) ≡ total f (counted_forwarding went low high) + f (Dropped Cause.Closed)
      sweeping_high o shut is =
          let a = forwarded went low (high ++ e ∷ []) in
          let b = forwarded went low high in
          let c = swept_one f high e o shut is in
          omega arith

      -- a mark isn't
      pub marking_low : payload_of e.load ≡ [] → total f (counted_forwarding went (low ++ e ∷ []) high) ≡ total f (counted_forwarding went low high)
      marking_low none =
          let a = forwarded went (low ++ e ∷ []) high in
          let b = forwarded went low high in
          let c = ap (total f) (swept_mark low e none) in
          omega arith

      pub marking_high : payload_of e.load ≡ [] → total f (counted_forwarding went low (high ++ e ∷ [])) ≡ total f (counted_forwarding went low high)
      marking_high none =
          let a = forwarded went low (high ++ e ∷ []) in
          let b = forwarded went low high in
          let c = ap (total f) (swept_mark high e none) in
          omega arith
