-- A turn of a receiver keeps its law.
use Rattle.std.proofs.Common.{◌≡◌, ℕ, suc, ◌+◌, List, [], ◌∷◌, ◌++◌, length, Option, Some, slice_get, refl, sym, ap, ap₂, subst, ◌∙◌, arith, append-nil, length-append}
use Rattle.order_laws.specs.Item.{Arrival}
use Rattle.order_laws.specs.Deeds.{Deed, Ending, done_items}
use Rattle.order_laws.proofs.Turns.{each_more}
use Rattle.process_packet.specs.declared.cause.Cause.{Cause}
use Rattle.process_packet.specs.declared.config.Config.{Config}
use Rattle.process_packet.specs.declared.underlay.Underlay.{Underlay}
use Rattle.packet_ledger.specs.Share.{Held, new_share, emptied}
use Rattle.ruled_pipe.specs.Producer.{Sender}
use Rattle.router_rules.specs.Rules.{kinds, rules}
use Rattle.worker_laws.specs.Marks.{EachHasTried}
use Rattle.worker_laws.specs.Works.{deed}
use Rattle.worker_laws.specs.Receives.{was_lacked, Passed}
use Rattle.worker_laws.specs.Forwards.{AddsTo}
use Rattle.worker_laws.specs.Counting.{Count, receiver_counts, counted_receiving}
use Rattle.worker_laws.proofs.Works.{items_more}
use Rattle.worker_laws.proofs.Receives.{keeps_passed, receives_none, receives_tried, lacks_more}
use Rattle.worker_laws.proofs.Counting.{receiving_more}
use Rattle.worker_order.specs.Heard.{Heard, Gave, WasQuiet, HadFailed, WasAtEnd, arrival, given, ToldNothing}
use Rattle.worker_order.specs.Shares.{Counts, raise_all}
use Rattle.worker_order.specs.Keeping.{IsReceiving}
use Rattle.worker_order.proofs.Shares.{counts_none, counts_all, counts_posted}

given_more : (link interface n : ℕ) (hs : List Heard) (h : Heard) → given link interface n (hs ++ h ∷ []) ≡ given link interface n hs ++ given link interface (n + length (given link interface n hs)) (h ∷ [])
given_more link interface n [] h = ap (λ k. given link interface k (h ∷ [])) (omega arith)
given_more link interface n (Gave s m b ∷ hs) h =
    let r = given_more link interface (n + 1) hs h in
    let k : n + 1 + length (given link interface (n + 1) hs) ≡ n + suc (length (given link interface (n + 1) hs)) = omega arith in
    ap (λ xs. arrival link interface n s m b ∷ xs) (r ∙ ap (λ j. given link interface (n + 1) hs ++ given link interface j (h ∷ [])) k)
given_more link interface n (WasQuiet ∷ hs) h = given_more link interface n hs h
given_more link interface n (HadFailed ∷ hs) h = given_more link interface n hs h
given_more link interface n (WasAtEnd ∷ hs) h = given_more link interface n hs h

-- the same share, as the counts of one deed more
pub one_deed : (share : Held) (all raised ks : List (Count kinds)) → all ≡ raised ++ ks → Counts share raised → Counts (raise_all ks share) all
one_deed share all raised ks e is = subst (λ xs. Counts (raise_all ks share) xs) (sym e) (counts_all share raised ks is)

module _ (c : Config) (link interface : ℕ) where
  -- nothing is received yet
  pub hears_none : (place : ℕ) (told : Option (List Heard)) (senders : List (Sender (Arrival kinds))) → ToldNothing told → ((i : ℕ) (s : Sender (Arrival kinds)) → slice_get senders i ≡ Some s → (s.offers ≡ []) × (s.refusals ≡ []))
      → IsReceiving c link interface 0 told [] senders (new_share place)
  hears_none place told senders untold fresh = record {
    log = [];
    law = receives_none (rules c) link senders fresh;
    stands = tt;
    count = refl;
    tells = λ hs e. ap (given link interface 1) (untold hs e);
    lacked = refl;
    counts = counts_none place;
  }

  module _ (number : ℕ) (told told' : Option (List Heard)) (looks looks' : List ℕ) (old new : List (Sender (Arrival kinds))) (share : Held) where
    -- a datagram
    pub hears_datagram : (source : Underlay) (now : ℕ) (bytes : List ℕ) (o : Ending Cause) → let d = deed (arrival link interface (number + 1) source now bytes) o in
        AddsTo told (Gave source now bytes) told' → Passed (rules c) d old new → length looks' ≡ length looks + was_lacked o
        → IsReceiving c link interface number told looks old share → IsReceiving c link interface (number + 1) told' looks' new (raise_all (receiver_counts {K = kinds} d) share)
    hears_datagram source now bytes o adds passed looked is =
        let x = arrival link interface (number + 1) source now bytes in
        let d : Deed Cause (Arrival kinds) = deed x o in
        let more = items_more is.log d in
        let long : length (done_items is.log ++ x ∷ []) ≡ number + 1 = long_more (done_items is.log) x is.count in
        record {
          log = is.log ++ d ∷ [];
          law = keeps_passed (rules c) link is.log d old new refl (let k = is.count in omega arith) is.law passed;
          stands = each_more (λ (d : Deed Cause (Arrival kinds)). d.item.datagram.interface ≡ interface) is.log d is.stands refl;
          count = ap length more ∙ long;
          tells = λ hs e.
              let a = adds hs e in
              let before = is.tells a.0 a.1 in
              let P : List Heard → Type 0 = λ ys. given link interface 1 ys ≡ done_items (is.log ++ d ∷ []) in
              let n : 1 + length (given link interface 1 a.0) ≡ number + 1 = let l = ap length before in let k = is.count in omega arith in
              subst P (sym a.2)
              (given_more link interface 1 a.0 (Gave source now bytes) ∙ ap₂ (λ xs k. xs ++ arrival link interface k source now bytes ∷ []) before n ∙ sym more);
          lacked = let a = lacks_more is.log d in let b = is.lacked in omega arith;
          counts = one_deed share (counted_receiving {K = kinds} (is.log ++ d ∷ [])) (counted_receiving {K = kinds} is.log) (receiver_counts {K = kinds} d) (receiving_more {K = kinds} is.log d) is.counts;
        }
      where
        long_more : (xs : List (Arrival kinds)) (x : Arrival kinds) → length xs ≡ number → length (xs ++ x ∷ []) ≡ number + 1
        long_more xs x e = omega (arith, length-append xs (x ∷ []))

  module _ (number : ℕ) (told told' : Option (List Heard)) (looks : List ℕ) (old new : List (Sender (Arrival kinds))) (share : Held) where
    -- another answer
    pub hears_nothing : (h : Heard) → ((n : ℕ) → given link interface n (h ∷ []) ≡ []) → AddsTo told h told' → IsReceiving c link interface number told looks old share → IsReceiving c link interface number told' looks old share
    hears_nothing h none adds is = record {
      log = is.log;
      law = is.law;
      stands = is.stands;
      count = is.count;
      tells = λ hs e.
          let a = adds hs e in
          let P : List Heard → Type 0 = λ ys. given link interface 1 ys ≡ done_items is.log in
          subst P (sym a.2) (given_more link interface 1 a.0 h ∙ ap (λ ys. given link interface 1 a.0 ++ ys) (none (1 + length (given link interface 1 a.0))) ∙ append-nil (given link interface 1 a.0) ∙ is.tells a.0 a.1);
      lacked = is.lacked;
      counts = is.counts;
    }

    -- end marks were tried
    pub hears_tried : EachHasTried old new → IsReceiving c link interface number told looks old share → IsReceiving c link interface number told looks new share
    hears_tried tried is = record { log = is.log; law = receives_tried (rules c) link is.log old new tried is.law; stands = is.stands; count = is.count; tells = is.tells; lacked = is.lacked; counts = is.counts }

    pub hears_posted : IsReceiving c link interface number told looks old share → IsReceiving c link interface number told looks old (emptied share)
    hears_posted is = record { log = is.log; law = is.law; stands = is.stands; count = is.count; tells = is.tells; lacked = is.lacked; counts = counts_posted share (counted_receiving {K = kinds} is.log) is.counts }
