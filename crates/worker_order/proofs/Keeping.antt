-- A turn of a processor, of the slow path and of a forwarder keeps its law.
use Rattle.std.proofs.Common.{◌≡◌, ℕ, ◌+◌, Bool, true, false, ◌||◌, cond, List, [], ◌∷◌, ◌++◌, Option, Some, None, slice_get, refl, sym, ap, subst, ◌∙◌, arith}
use Rattle.std.proofs.lemmas.List.{map-append}
use Rattle.order_laws.specs.Item.{Arrival, Outgoing}
use Rattle.order_laws.specs.Cause.{Cause as Ended}
use Rattle.order_laws.specs.Deeds.{Pushed, Load, Payload, CloseMark, EndMark, payload_of, closes, Deed}
use Rattle.order_laws.specs.Settled.{SlowPathRequest}
use Rattle.order_laws.proofs.Sums.{total-append}
use Rattle.process_packet.specs.declared.cause.Cause.{Cause}
use Rattle.process_packet.specs.declared.config.Config.{Config}
use Rattle.packet_ledger.specs.Share.{Held, new_share, emptied}
use Rattle.ruled_pipe.specs.declared.entry.Entry.{Entry}
use Rattle.ruled_pipe.specs.Producer.{Sender}
use Rattle.ruled_pipe.specs.Consumer.{Taker, took, looked}
use Rattle.router_rules.specs.Rules.{kinds, rules}
use Rattle.worker_laws.specs.Ends.{load_in, pushed_in, pushes}
use Rattle.worker_laws.specs.Marks.{HasTried, EachHasTried}
use Rattle.worker_laws.specs.Works.{Did}
use Rattle.worker_laws.specs.Answers.{Answered}
use Rattle.worker_laws.specs.Forwards.{Handed, AddsTo, KeepsForwarder}
use Rattle.worker_laws.specs.Counting.{Count, Dropped, processor_counts, slow_counts, handed_count, counted_working, counted_answering, counted_forwarding}
use Rattle.worker_laws.proofs.Works.{keeps_none, keeps_taken, keeps_worked, keeps_mark, keeps_looked, keeps_tried}
use Rattle.worker_laws.proofs.Answers.{answers_none, answers_did, answers_mark, answers_looked, answers_tried}
use Rattle.worker_laws.proofs.Forwards.{forwards_none, forwards_low, forwards_high, sweeps_low, sweeps_high, marks_low, marks_high}
use Rattle.worker_laws.proofs.Counting.{working_more, answering_more, forwarding_low, forwarding_high, sweeping_low, sweeping_high, marking_low, marking_high}
use Rattle.worker_order.specs.Heard.{ToldNothing}
use Rattle.worker_order.specs.Shares.{counts_at, times, Counts, raise, raise_all}
use Rattle.worker_order.specs.Keeping.{IsWorking, IsAnswering, IsForwarding}
use Rattle.worker_order.proofs.Shares.{counts_none, counts_raised, counts_same, counts_posted}
use Rattle.worker_order.proofs.Hearing.{one_deed}

module _ (c : Config) where
  -- ---- a processor

  pub works_none : (place : ℕ) (taker : Taker (Arrival kinds)) (senders : List (Sender (Outgoing kinds))) (slow : Sender (SlowPathRequest kinds)) → taker.taken ≡ []
      → ((j : ℕ) (s : Sender (Outgoing kinds)) → slice_get senders j ≡ Some s → (s.offers ≡ []) × (s.refusals ≡ [])) → (slow.offers ≡ []) × (slow.refusals ≡ []) → IsWorking c taker None senders slow (new_share place)
  works_none place taker senders slow untaken fresh asks = record { log = []; law = keeps_none (rules c) taker senders slow untaken fresh asks; counts = counts_none place }

  module _ (taker : Taker (Arrival kinds)) (old new : List (Sender (Outgoing kinds))) (slow slow' : Sender (SlowPathRequest kinds)) (share : Held) where
    -- a packet is taken in hand
    pub works_taken : (x : Arrival kinds) (e : Entry (Arrival kinds)) → payload_of (load_in e.load) ≡ x ∷ [] → IsWorking c taker None old slow share → IsWorking c (took taker e) (Some x) old slow share
    works_taken x e is k = record { log = k.log; law = keeps_taken (rules c) k.log x e taker old slow is k.law; counts = k.counts }

    -- the packet in hand is worked on
    pub works_did : (d : Deed Cause (Arrival kinds)) → Did (rules c) d old new slow slow' → IsWorking c taker (Some d.item) old slow share → IsWorking c taker None new slow' (raise_all (processor_counts (rules c) d) share)
    works_did d w k = record {
      log = k.log ++ d ∷ [];
      law = keeps_worked (rules c) k.log d taker old new slow slow' k.law w;
      counts = one_deed share (counted_working (rules c) (k.log ++ d ∷ [])) (counted_working (rules c) k.log) (processor_counts (rules c) d) (working_more (rules c) k.log d) k.counts;
    }

    pub works_mark : (e : Entry (Arrival kinds)) → payload_of (load_in e.load) ≡ [] → IsWorking c taker None old slow share → IsWorking c (took taker e) None old slow share
    works_mark e is k = record { log = k.log; law = keeps_mark (rules c) k.log e taker old slow is k.law; counts = k.counts }

    pub works_looked : (hand : Option (Arrival kinds)) → IsWorking c taker hand old slow share → IsWorking c (looked taker) hand old slow share
    works_looked hand k = record { log = k.log; law = keeps_looked (rules c) k.log taker hand old slow k.law; counts = k.counts }

    pub works_tried : (hand : Option (Arrival kinds)) → EachHasTried old new → HasTried slow slow' → IsWorking c taker hand old slow share → IsWorking c taker hand new slow' share
    works_tried hand tried asked k = record { log = k.log; law = keeps_tried (rules c) k.log taker hand old new slow slow' tried asked k.law; counts = k.counts }

    pub works_posted : (hand : Option (Arrival kinds)) → IsWorking c taker hand old slow share → IsWorking c taker hand old slow (emptied share)
    works_posted hand k = record { log = k.log; law = k.law; counts = counts_posted share (counted_working (rules c) k.log) k.counts }

  -- ---- the slow path

  pub slow_none : (place : ℕ) (taker : Taker (SlowPathRequest kinds)) (senders : List (Sender (Outgoing kinds))) → taker.taken ≡ [] → ((j : ℕ) (s : Sender (Outgoing kinds)) → slice_get senders j ≡ Some s → (s.offers ≡ []) × (s.refusals ≡ []))
      → IsAnswering c taker senders (new_share place)
  slow_none place taker senders untaken fresh = record { log = []; law = answers_none (rules c) taker senders untaken fresh; counts = counts_none place }

  module _ (taker : Taker (SlowPathRequest kinds)) (old new : List (Sender (Outgoing kinds))) (share : Held) where
    -- a request is taken and worked on
    pub slow_did : (d : Deed Cause (SlowPathRequest kinds)) (e : Entry (SlowPathRequest kinds)) → payload_of (load_in e.load) ≡ d.item ∷ [] → Answered (rules c) d old new → IsAnswering c taker old share
        → IsAnswering c (took taker e) new (raise_all (slow_counts {K = kinds} d) share)
    slow_did d e is w k = record {
      log = k.log ++ d ∷ [];
      law = answers_did (rules c) k.log d e taker old new is k.law w;
      counts = one_deed share (counted_answering {K = kinds} (k.log ++ d ∷ [])) (counted_answering {K = kinds} k.log) (slow_counts {K = kinds} d) (answering_more {K = kinds} k.log d) k.counts;
    }

    pub slow_mark : (e : Entry (SlowPathRequest kinds)) → payload_of (load_in e.load) ≡ [] → IsAnswering c taker old share → IsAnswering c (took taker e) old share
    slow_mark e is k = record { log = k.log; law = answers_mark (rules c) k.log e taker old is k.law; counts = k.counts }

    pub slow_looked : IsAnswering c taker old share → IsAnswering c (looked taker) old share
    slow_looked k = record { log = k.log; law = answers_looked (rules c) k.log taker old k.law; counts = k.counts }

    pub slow_tried : EachHasTried old new → IsAnswering c taker old share → IsAnswering c taker new share
    slow_tried tried k = record { log = k.log; law = answers_tried (rules c) k.log taker old new tried k.law; counts = k.counts }

    pub slow_posted : IsAnswering c taker old share → IsAnswering c taker old (emptied share)
    slow_posted k = record { log = k.log; law = k.law; counts = counts_posted share (counted_answering {K = kinds} k.log) k.counts }

-- ---- a forwarder

pushes_more : (es : List (Entry (Outgoing kinds))) (e : Entry (Outgoing kinds)) → pushes (es ++ e ∷ []) ≡ pushes es ++ pushed_in e ∷ []
pushes_more es e = map-append pushed_in es (e ∷ [])

pub forwards_first : {T : Type 0} (shows : Handed kinds → T) (place : ℕ) (low high : Taker (Outgoing kinds)) (told : Option (List T)) (began : ℕ) → low.taken ≡ [] → high.taken ≡ [] → ToldNothing told → IsForwarding shows low high false false told began began (new_share place)
forwards_first shows place low high told began no_low no_high untold = record {
  went = [];
  law =
      let P : List (Entry (Outgoing kinds)) → Type 0 = λ es. KeepsForwarder shows [] (pushes es) (pushes high.taken) false false told began began in
      let Q : List (Entry (Outgoing kinds)) → Type 0 = λ es. KeepsForwarder shows [] [] (pushes es) false false told began began in
      subst P (sym no_low) (subst Q (sym no_high) (forwards_none shows told began untold));
  counts =
      let P : List (Entry (Outgoing kinds)) → Type 0 = λ es. Counts (new_share place) (counted_forwarding [] (pushes es) (pushes high.taken)) in
      let Q : List (Entry (Outgoing kinds)) → Type 0 = λ es. Counts (new_share place) (counted_forwarding [] [] (pushes es)) in
      subst P (sym no_low) (subst Q (sym no_high) (counts_none place));
}

-- one count more, where it was raised once more
raised_once : (share : Held) (raised others : List (Count kinds)) (k : Count kinds) → ((i : ℕ) → times i others ≡ times i raised + counts_at i k) → Counts share raised → Counts (raise k share) others
raised_once share raised others k more is =
    counts_same (raise k share) (raised ++ k ∷ []) others (λ i. let a = more i in let b = total-append (counts_at i) raised (k ∷ []) in omega arith) (counts_raised share raised k is)

-- a payload closes nothing
open_load : (l : Load (Outgoing kinds)) (o : Outgoing kinds) → payload_of l ≡ o ∷ [] → closes l ≡ false
open_load (Payload x) o p = refl
open_load CloseMark o p = absurd cc
open_load EndMark o p = absurd cc

module _ {T : Type 0} (shows : Handed kinds → T) (low high : Taker (Outgoing kinds)) (low_shut high_shut : Bool) (began failed : ℕ) (share : Held) (e : Entry (Outgoing kinds)) where
  abbrev lows : List (Pushed (Outgoing kinds))
  lows = pushes low.taken

  abbrev highs : List (Pushed (Outgoing kinds))
  highs = pushes high.taken

  module _ (told told' : Option (List T)) (failed' : ℕ) (h : Handed kinds) where
    -- one is handed to the sink
    pub hands_low : payload_of (load_in e.load) ≡ h.item ∷ [] → low_shut ≡ false → AddsTo told (shows h) told' → failed' ≡ failed + cond h.took 0 1
        → IsForwarding shows low high low_shut high_shut told began failed share → IsForwarding shows (took low e) high false high_shut told' began failed' (raise (handed_count h) share)
    hands_low is unshut adds fails k = record {
      went = k.went ++ h ∷ [];
      law = subst (λ (es : List (Pushed (Outgoing kinds))). KeepsForwarder shows (k.went ++ h ∷ []) es highs false high_shut told' began failed') (sym (pushes_more low.taken e))
          (forwards_low shows k.went lows highs (pushed_in e) low_shut high_shut told told' began failed failed' h is unshut adds fails k.law);
      counts = raised_once share (counted_forwarding k.went lows highs) (counted_forwarding (k.went ++ h ∷ []) (pushes (low.taken ++ e ∷ [])) highs) (handed_count h)
          (λ i. ap (λ (es : List (Pushed (Outgoing kinds))). times i (counted_forwarding (k.went ++ h ∷ []) es highs)) (pushes_more low.taken e)
          ∙ forwarding_low (counts_at i) k.went lows highs (pushed_in e) h (sym k.law.low_mark ∙ unshut) (open_load (load_in e.load) h.item is)) k.counts;
    }

    pub hands_high : payload_of (load_in e.load) ≡ h.item ∷ [] → high_shut ≡ false → AddsTo told (shows h) told' → failed' ≡ failed + cond h.took 0 1
        → IsForwarding shows low high low_shut high_shut told began failed share → IsForwarding shows low (took high e) low_shut false told' began failed' (raise (handed_count h) share)
    hands_high is unshut adds fails k = record {
      went = k.went ++ h ∷ [];
      law = subst (λ (es : List (Pushed (Outgoing kinds))). KeepsForwarder shows (k.went ++ h ∷ []) lows es low_shut false told' began failed') (sym (pushes_more high.taken e))
          (forwards_high shows k.went lows highs (pushed_in e) low_shut high_shut told told' began failed failed' h is unshut adds fails k.law);
      counts = raised_once share (counted_forwarding k.went lows highs) (counted_forwarding (k.went ++ h ∷ []) lows (pushes (high.taken ++ e ∷ []))) (handed_count h)
          (λ i. ap (λ (es : List (Pushed (Outgoing kinds))). times i (counted_forwarding (k.went ++ h ∷ []) lows es)) (pushes_more high.taken e)
          ∙ forwarding_high (counts_at i) k.went lows highs (pushed_in e) h (sym k.law.high_mark ∙ unshut) (open_load (load_in e.load) h.item is)) k.counts;
    }

  module _ (told : Option (List T)) where
    -- one is swept
    pub swept_low : (o : Outgoing kinds) → payload_of (load_in e.load) ≡ o ∷ [] → low_shut ≡ true
        → IsForwarding shows low high low_shut high_shut told began failed share → IsForwarding shows (took low e) high true high_shut told began failed (raise (Dropped Ended.Closed) share)
    swept_low o is shut k = record {
      went = k.went;
      law = subst (λ (es : List (Pushed (Outgoing kinds))). KeepsForwarder shows k.went es highs true high_shut told began failed) (sym (pushes_more low.taken e))
          (sweeps_low shows k.went lows highs (pushed_in e) low_shut high_shut told began failed shut k.law);
      counts = raised_once share (counted_forwarding k.went lows highs) (counted_forwarding k.went (pushes (low.taken ++ e ∷ [])) highs) (Dropped Ended.Closed)
          (λ i. ap (λ (es : List (Pushed (Outgoing kinds))). times i (counted_forwarding k.went es highs)) (pushes_more low.taken e)
          ∙ sweeping_low (counts_at i) k.went lows highs (pushed_in e) o (sym k.law.low_mark ∙ shut) is) k.counts;
    }

    pub swept_high : (o : Outgoing kinds) → payload_of (load_in e.load) ≡ o ∷ [] → high_shut ≡ true
        → IsForwarding shows low high low_shut high_shut told began failed share → IsForwarding shows low (took high e) low_shut true told began failed (raise (Dropped Ended.Closed) share)
    swept_high o is shut k = record {
      went = k.went;
      law = subst (λ (es : List (Pushed (Outgoing kinds))). KeepsForwarder shows k.went lows es low_shut true told began failed) (sym (pushes_more high.taken e))
          (sweeps_high shows k.went lows highs (pushed_in e) low_shut high_shut told began failed shut k.law);
      counts = raised_once share (counted_forwarding k.went lows highs) (counted_forwarding k.went lows (pushes (high.taken ++ e ∷ []))) (Dropped Ended.Closed)
          (λ i. ap (λ (es : List (Pushed (Outgoing kinds))). times i (counted_forwarding k.went lows es)) (pushes_more high.taken e)
          ∙ sweeping_high (counts_at i) k.went lows highs (pushed_in e) o (sym k.law.high_mark ∙ shut) is) k.counts;
    }

    -- a mark is taken
    pub mark_low : payload_of (load_in e.load) ≡ [] → IsForwarding shows low high low_shut high_shut told began failed share → IsForwarding shows (took low e) high (low_shut || closes (load_in e.load)) high_shut told began failed share
    mark_low none k = record {
      went = k.went;
      law = subst (λ (es : List (Pushed (Outgoing kinds))). KeepsForwarder shows k.went es highs (low_shut || closes (load_in e.load)) high_shut told began failed) (sym (pushes_more low.taken e))
          (marks_low shows k.went lows highs (pushed_in e) low_shut high_shut told began failed none k.law);
      counts = counts_same share (counted_forwarding k.went lows highs) (counted_forwarding k.went (pushes (low.taken ++ e ∷ [])) highs)
          (λ i. ap (λ (es : List (Pushed (Outgoing kinds))). times i (counted_forwarding k.went es highs)) (pushes_more low.taken e) ∙ marking_low (counts_at i) k.went lows highs (pushed_in e) none) k.counts;
    }

    pub mark_high : payload_of (load_in e.load) ≡ [] → IsForwarding shows low high low_shut high_shut told began failed share → IsForwarding shows low (took high e) low_shut (high_shut || closes (load_in e.load)) told began failed share
    mark_high none k = record {
      went = k.went;
      law = subst (λ (es : List (Pushed (Outgoing kinds))). KeepsForwarder shows k.went lows es low_shut (high_shut || closes (load_in e.load)) told began failed) (sym (pushes_more high.taken e))
          (marks_high shows k.went lows highs (pushed_in e) low_shut high_shut told began failed none k.law);
      counts = counts_same share (counted_forwarding k.went lows highs) (counted_forwarding k.went lows (pushes (high.taken ++ e ∷ [])))
          (λ i. ap (λ (es : List (Pushed (Outgoing kinds))). times i (counted_forwarding k.went lows es)) (pushes_more high.taken e) ∙ marking_high (counts_at i) k.went lows highs (pushed_in e) none) k.counts;
    }

module _ {T : Type 0} (shows : Handed kinds → T) (low high : Taker (Outgoing kinds)) (low_shut high_shut : Bool) (told : Option (List T)) (began failed : ℕ) (share : Held) where
  -- a look that found nothing
  pub looked_low : IsForwarding shows low high low_shut high_shut told began failed share → IsForwarding shows (looked low) high low_shut high_shut told began failed share
  looked_low k = record { went = k.went; law = k.law; counts = k.counts }

  pub looked_high : IsForwarding shows low high low_shut high_shut told began failed share → IsForwarding shows low (looked high) low_shut high_shut told began failed share
  looked_high k = record { went = k.went; law = k.law; counts = k.counts }

  pub forwards_posted : IsForwarding shows low high low_shut high_shut told began failed share → IsForwarding shows low high low_shut high_shut told began failed (emptied share)
  forwards_posted k = record { went = k.went; law = k.law; counts = counts_posted share (counted_forwarding k.went (pushes low.taken) (pushes high.taken)) k.counts }
