-- A forwarder's takes keep its law.
use Rattle.std.proofs.Common.{◌≡◌, ℕ, ◌+◌, Bool, true, false, not, ◌||◌, cond, List, [], ◌∷◌, ◌++◌, map, Option, Some, refl, sym, ◌∙◌, ap, subst, arith, append-nil}
use Rattle.std.proofs.lemmas.Grind.{flat_map-append}
use Rattle.std.proofs.lemmas.List.{map-append}
use Rattle.order_laws.specs.Kinds.{Kinds}
use Rattle.order_laws.specs.Item.{Outgoing}
use Rattle.order_laws.specs.Merge.{IsMerge}
use Rattle.order_laws.proofs.Merge.{merge-append}
use Rattle.order_laws.specs.Deeds.{Load, Payload, CloseMark, EndMark, Pushed, payload_of, payloads, closes, has_mark, before_mark}
use Rattle.order_laws.proofs.Turns.{before_more, shut_more}
use Rattle.order_laws.specs.Counts.{total}
use Rattle.order_laws.proofs.Sums.{count-total, total-append}
use Rattle.worker_laws.specs.Forwards.{Handed, AddsTo, WentOn, handed_items, refusals_of, KeepsForwarder}

module _ {K : Kinds} where
  -- what stands before the mark, one entry more
  before_one : (es : List (Pushed (Outgoing K))) (e : Pushed (Outgoing K)) (o : Outgoing K) → has_mark es ≡ false → closes e.load ≡ false → payload_of e.load ≡ o ∷ [] → payloads (before_mark (es ++ e ∷ [])) ≡ payloads (before_mark es) ++ o ∷ []
  before_one es e o unshut not_mark is =
      let is_more : before_mark (es ++ e ∷ []) ≡ before_mark es ++ e ∷ [] = before_more es e ∙ rw (unshut, not_mark) refl in
      ap payloads is_more ∙ flat_map-append (λ (x : Pushed (Outgoing K)). payload_of x.load) (before_mark es) (e ∷ [])
      ∙ ap (λ (xs : List (Outgoing K)). payloads (before_mark es) ++ xs) (append-nil (payload_of e.load) ∙ is)

  pub went_low : (low high : List (Pushed (Outgoing K))) (went : List (Outgoing K)) (e : Pushed (Outgoing K)) (o : Outgoing K) → has_mark low ≡ false → closes e.load ≡ false → payload_of e.load ≡ o ∷ []
      → WentOn low high went → WentOn (low ++ e ∷ []) high (went ++ o ∷ [])
  went_low low high went e o unshut not_mark is w =
      let P : List (Outgoing K) → Type 0 = λ xs. IsMerge xs (payloads (before_mark high)) (went ++ o ∷ []) in
      let Q : List (Outgoing K) → Type 0 = λ ys. IsMerge (payloads (before_mark low) ++ o ∷ []) ys (went ++ o ∷ []) in
      let R : List (Outgoing K) → Type 0 = λ zs. IsMerge (payloads (before_mark low) ++ o ∷ []) (payloads (before_mark high) ++ []) (went ++ zs) in
      subst P (sym (before_one low e o unshut not_mark is)) (subst Q (append-nil (payloads (before_mark high))) (subst R (append-nil (o ∷ [])) (merge-append (payloads (before_mark low)) (payloads (before_mark high)) went (o ∷ []) [] w)))

  pub went_high : (low high : List (Pushed (Outgoing K))) (went : List (Outgoing K)) (e : Pushed (Outgoing K)) (o : Outgoing K) → has_mark high ≡ false → closes e.load ≡ false → payload_of e.load ≡ o ∷ []
      → WentOn low high went → WentOn low (high ++ e ∷ []) (went ++ o ∷ [])
  went_high low high went e o unshut not_mark is w =
      let P : List (Outgoing K) → Type 0 = λ ys. IsMerge (payloads (before_mark low)) ys (went ++ o ∷ []) in
      let Q : List (Outgoing K) → Type 0 = λ xs. IsMerge xs (payloads (before_mark high) ++ o ∷ []) (went ++ o ∷ []) in
      subst P (sym (before_one high e o unshut not_mark is)) (subst Q (append-nil (payloads (before_mark low))) (merge-append (payloads (before_mark low)) (payloads (before_mark high)) went [] (o ∷ []) w))

module _ {K : Kinds} where
  -- an entry that isn't for sending: a mark, or one after the closing mark
  abbrev IsSilent : List (Pushed (Outgoing K)) → Pushed (Outgoing K) → Type 0
  IsSilent es e = payloads (before_mark (es ++ e ∷ [])) ≡ payloads (before_mark es)

  silent_after : (es : List (Pushed (Outgoing K))) (e : Pushed (Outgoing K)) → has_mark es ≡ true → IsSilent es e
  silent_after es e shut =
      let same : before_mark (es ++ e ∷ []) ≡ before_mark es = before_more es e ∙ rw (shut) refl in
      ap payloads same

  silent_mark : (es : List (Pushed (Outgoing K))) (e : Pushed (Outgoing K)) → payload_of e.load ≡ [] → IsSilent es e
  silent_mark es e none = ap payloads (before_more es e) ∙ go (has_mark es) (closes e.load)
    where
      go : (b c : Bool) → payloads (cond b (before_mark es) (before_mark es ++ cond c [] (e ∷ []))) ≡ payloads (before_mark es)
      go true c = refl
      go false true = ap payloads (append-nil (before_mark es))
      go false false =
          flat_map-append (λ (x : Pushed (Outgoing K)). payload_of x.load) (before_mark es) (e ∷ []) ∙ ap (λ (xs : List (Outgoing K)). payloads (before_mark es) ++ xs) (append-nil (payload_of e.load) ∙ none)
          ∙ append-nil (payloads (before_mark es))

  low_silent : (low high : List (Pushed (Outgoing K))) (went : List (Outgoing K)) (e : Pushed (Outgoing K)) → IsSilent low e → WentOn low high went → WentOn (low ++ e ∷ []) high went
  low_silent low high went e none w = subst (λ (xs : List (Outgoing K)). IsMerge xs (payloads (before_mark high)) went) (sym none) w

  high_silent : (low high : List (Pushed (Outgoing K))) (went : List (Outgoing K)) (e : Pushed (Outgoing K)) → IsSilent high e → WentOn low high went → WentOn low (high ++ e ∷ []) went
  high_silent low high went e none w = subst (λ (xs : List (Outgoing K)). IsMerge (payloads (before_mark low)) xs went) (sym none) w

  -- a payload closes nothing
  no_close : (e : Pushed (Outgoing K)) (o : Outgoing K) → payload_of e.load ≡ o ∷ [] → closes e.load ≡ false
  no_close e o is = go e.load is
    where
      go : (l : Load (Outgoing K)) → payload_of l ≡ o ∷ [] → closes l ≡ false
      go (Payload x) p = refl
      go CloseMark p = absurd cc
      go EndMark p = absurd cc

  open_more : (es : List (Pushed (Outgoing K))) (e : Pushed (Outgoing K)) → has_mark es ≡ false → closes e.load ≡ false → false ≡ has_mark (es ++ e ∷ [])
  open_more es e unshut not_mark = sym (shut_more es e ∙ rw (unshut, not_mark) refl)

  shut_after : (es : List (Pushed (Outgoing K))) (e : Pushed (Outgoing K)) → has_mark es ≡ true → true ≡ has_mark (es ++ e ∷ [])
  shut_after es e shut = sym (shut_more es e ∙ rw (shut) refl)

  -- one handed to the sink more
  items_one : (went : List (Handed K)) (h : Handed K) → handed_items (went ++ h ∷ []) ≡ handed_items went ++ h.item ∷ []
  items_one went h = map-append (λ (h : Handed K). h.item) went (h ∷ [])

  told_one : {T : Type 0} (shows : Handed K → T) (told told' : Option (List T)) (went : List (Handed K)) (h : Handed K) → AddsTo told (shows h) told' → ((ts : List T) → told ≡ Some ts → ts ≡ map shows went)
      → (ts : List T) → told' ≡ Some ts → ts ≡ map shows (went ++ h ∷ [])
  told_one {T = T} shows told told' went h adds tells ts is = let a = adds ts is in a.2 ∙ ap (λ (xs : List T). xs ++ shows h ∷ []) (tells a.0 a.1) ∙ sym (map-append shows went (h ∷ []))

  refusals_one : (went : List (Handed K)) (h : Handed K) → refusals_of (went ++ h ∷ []) ≡ refusals_of went + cond h.took 0 1
  refusals_one went h =
      let f : Handed K → ℕ = λ x. cond (not x.took) 1 0 in
      count-total (λ (x : Handed K). not x.took) (went ++ h ∷ []) ∙ total-append f went (h ∷ []) ∙ go (total f went) (refusals_of went) h.took (sym (count-total (λ (x : Handed K). not x.took) went))
    where
      go : (m n : ℕ) (b : Bool) → m ≡ n → m + (cond (not b) 1 0 + 0) ≡ n + cond b 0 1
      go m n true e = omega arith
      go m n false e = omega arith

  -- nothing was taken yet
  pub forwards_none : {T : Type 0} (shows : Handed K → T) (told : Option (List T)) (began : ℕ) → ((ts : List T) → told ≡ Some ts → ts ≡ []) → KeepsForwarder shows [] [] [] false false told began began
  forwards_none shows told began untold = record { order = (refl, refl); low_mark = refl; high_mark = refl; tells = untold; failures = omega arith }

  module _ {T : Type 0} (shows : Handed K → T) (went : List (Handed K)) (low high : List (Pushed (Outgoing K))) (e : Pushed (Outgoing K)) (low_shut high_shut : Bool) (told told' : Option (List T)) (began failed failed' : ℕ) where
    -- one is taken of the low pipe, and handed to the sink
    pub forwards_low : (h : Handed K) → payload_of e.load ≡ h.item ∷ [] → low_shut ≡ false → AddsTo told (shows h) told' → failed' ≡ failed + cond h.took 0 1 → KeepsForwarder shows went low high low_shut high_shut told began failed
        → KeepsForwarder shows (went ++ h ∷ []) (low ++ e ∷ []) high false high_shut told' began failed'
    forwards_low h is unshut adds fails k =
        let none = sym k.low_mark ∙ unshut in
        record {
          order = subst (λ (xs : List (Outgoing K)). WentOn (low ++ e ∷ []) high xs) (sym (items_one went h)) (went_low low high (handed_items went) e h.item none (no_close e h.item is) is k.order);
          low_mark = open_more low e none (no_close e h.item is);
          high_mark = k.high_mark;
          tells = told_one shows told told' went h adds k.tells;
          failures = let a = k.failures in let b = refusals_one went h in omega arith;
        }

    -- one is taken of the high pipe, and handed to the sink
    pub forwards_high : (h : Handed K) → payload_of e.load ≡ h.item ∷ [] → high_shut ≡ false → AddsTo told (shows h) told' → failed' ≡ failed + cond h.took 0 1 → KeepsForwarder shows went low high low_shut high_shut told began failed
        → KeepsForwarder shows (went ++ h ∷ []) low (high ++ e ∷ []) low_shut false told' began failed'
    forwards_high h is unshut adds fails k =
        let none = sym k.high_mark ∙ unshut in
        record {
          order = subst (λ (xs : List (Outgoing K)). WentOn low (high ++ e ∷ []) xs) (sym (items_one went h)) (went_high low high (handed_items went) e h.item none (no_close e h.item is) is k.order);
          low_mark = k.low_mark;
          high_mark = open_more high e none (no_close e h.item is);
          tells = told_one shows told told' went h adds k.tells;
          failures = let a = k.failures in let b = refusals_one went h in omega arith;
        }

  module _ {T : Type 0} (shows : Handed K → T) (went : List (Handed K)) (low high : List (Pushed (Outgoing K))) (e : Pushed (Outgoing K)) (low_shut high_shut : Bool) (told : Option (List T)) (began failed : ℕ) where
    -- one is swept of the low pipe
    pub sweeps_low : low_shut ≡ true → KeepsForwarder shows went low high low_shut high_shut told began failed → KeepsForwarder shows went (low ++ e ∷ []) high true high_shut told began failed
    sweeps_low shut k =
        let is = sym k.low_mark ∙ shut in
        record { order = low_silent low high (handed_items went) e (silent_after low e is) k.order; low_mark = shut_after low e is; high_mark = k.high_mark; tells = k.tells; failures = k.failures }

    -- one is swept of the high pipe
    pub sweeps_high : high_shut ≡ true → KeepsForwarder shows went low high low_shut high_shut told began failed → KeepsForwarder shows went low (high ++ e ∷ []) low_shut true told began failed
    sweeps_high shut k =
        let is = sym k.high_mark ∙ shut in
        record { order = high_silent low high (handed_items went) e (silent_after high e is) k.order; low_mark = k.low_mark; high_mark = shut_after high e is; tells = k.tells; failures = k.failures }

    -- a mark is taken of the low pipe
    pub marks_low : payload_of e.load ≡ [] → KeepsForwarder shows went low high low_shut high_shut told began failed → KeepsForwarder shows went (low ++ e ∷ []) high (low_shut || closes e.load) high_shut told began failed
    marks_low none k =
        record {
          order = low_silent low high (handed_items went) e (silent_mark low e none) k.order;
          low_mark = ap (λ (b : Bool). b || closes e.load) k.low_mark ∙ sym (shut_more low e);
          high_mark = k.high_mark;
          tells = k.tells;
          failures = k.failures;
        }

    -- a mark is taken of the high pipe
    pub marks_high : payload_of e.load ≡ [] → KeepsForwarder shows went low high low_shut high_shut told began failed → KeepsForwarder shows went low (high ++ e ∷ []) low_shut (high_shut || closes e.load) told began failed
    marks_high none k =
        record {
          order = high_silent low high (handed_items went) e (silent_mark high e none) k.order;
          low_mark = k.low_mark;
          high_mark = ap (λ (b : Bool). b || closes e.load) k.high_mark ∙ sym (shut_more high e);
          tells = k.tells;
          failures = k.failures;
        }
