-- What all workers counted, share by share.
use Rattle.std.proofs.Common.{◌≡◌, ℕ, zero, suc, ◌+◌, Bool, true, false, List, [], ◌∷◌, ◌++◌, map, length, Some, slice_get, refl, ◌∙◌, ap, arith}
use Rattle.order_laws.specs.Kinds.{Kinds}
use Rattle.order_laws.specs.Rules.{Rules}
use Rattle.order_laws.specs.Pipes.{link_pipe}
use Rattle.order_laws.specs.Counts.{total, count}
use Rattle.order_laws.specs.Deeds.{Pushed}
use Rattle.order_laws.specs.Counted.{sum_to}
use Rattle.order_laws.proofs.Sums.{total-append}
use Rattle.worker_laws.specs.Ends.{pushes}
use Rattle.worker_laws.specs.Forwards.{Handed}
use Rattle.worker_laws.specs.Counting.{Count, counted_receiving, counted_working, counted_answering, counted_forwarding}
use Rattle.worker_laws.specs.Causes.{all_counts}
use Rattle.worker_laws.specs.Workers.{Receiver, Processor, Forwarder, Workers, read_at, views_of, slow_views, went_at, HaveEnded}
use Rattle.worker_laws.specs.Sums.{all_raised, AddsUp}
use Rattle.worker_laws.proofs.Composed.{read_is, low_passed, high_passed, passed_low, passed_high}

-- the first summand alone
sum_first : (n : ℕ) (g : ℕ → ℕ) → sum_to (suc n) g ≡ g 0 + sum_to n (λ k. g (suc k))
sum_first zero g = omega arith
sum_first (suc n) g = let r = sum_first n g in omega arith

-- a sum over a list, and over its indices
pub over : {X : Type 0} (g : X → ℕ) (xs : List X) (f : ℕ → ℕ) → ((k : ℕ) (x : X) → slice_get xs k ≡ Some x → f k ≡ g x) → total g xs ≡ sum_to (length xs) f
over g [] f each = refl
over g (x ∷ xs) f each =
    let r = over g xs (λ k. f (suc k)) (λ k y at. each (suc k) y at) in
    let a = sum_first (length xs) f in
    let b = each 0 x refl in
    omega arith

total_map : {A B : Type 0} (h : A → B) (g : B → ℕ) (xs : List A) → total g (map h xs) ≡ total (λ x. g (h x)) xs
total_map h g [] = refl
total_map h g (x ∷ xs) = let r = total_map h g xs in omega arith

module _ {K : Kinds} (R : Rules K) (w : Workers K) (closed : ℕ → Bool) (h : HaveEnded R w closed) (test : Count K → Bool) where
  abbrev of_test : List (Count K) → ℕ
  of_test ks = count test ks

  receiving : total of_test (map (λ (r : Receiver K). counted_receiving r.log) w.receivers) ≡ sum_to R.links (λ p. count test (counted_receiving (read_at (λ (r : Receiver K). r.log) w.receivers p)))
  receiving =
      total_map (λ (r : Receiver K). counted_receiving r.log) of_test w.receivers
      ∙ over (λ (r : Receiver K). count test (counted_receiving r.log)) w.receivers (λ p. count test (counted_receiving (read_at (λ (r : Receiver K). r.log) w.receivers p)))
      (λ k r at. ap (λ l. count test (counted_receiving {K = K} l)) (read_is (λ (r : Receiver K). r.log) w.receivers k r at))
      ∙ ap (λ (n : ℕ). sum_to n (λ p. count test (counted_receiving (read_at (λ (r : Receiver K). r.log) w.receivers p)))) h.receiver_count

  working : total of_test (map (λ (p : Processor K). counted_working R p.log) w.processors) ≡ sum_to R.processors (λ i. count test (counted_working R (read_at (λ (p : Processor K). p.log) w.processors i)))
  working =
      total_map (λ (p : Processor K). counted_working R p.log) of_test w.processors
      ∙ over (λ (p : Processor K). count test (counted_working R p.log)) w.processors (λ i. count test (counted_working R (read_at (λ (p : Processor K). p.log) w.processors i)))
      (λ k p at. ap (λ l. count test (counted_working R l)) (read_is (λ (p : Processor K). p.log) w.processors k p at))
      ∙ ap (λ (n : ℕ). sum_to n (λ i. count test (counted_working R (read_at (λ (p : Processor K). p.log) w.processors i)))) h.processor_count

  abbrev of_link : ℕ → ℕ
  of_link l = count test (counted_forwarding (went_at w l) ((views_of R w).forwarded (link_pipe R false l)) ((views_of R w).forwarded (link_pipe R true l)))

  forwarding : total of_test (map (λ (f : Forwarder K). counted_forwarding f.went (pushes f.low.taken) (pushes f.high.taken)) w.forwarders) ≡ sum_to R.links of_link
  forwarding =
      total_map (λ (f : Forwarder K). counted_forwarding f.went (pushes f.low.taken) (pushes f.high.taken)) of_test w.forwarders
      ∙ over (λ (f : Forwarder K). count test (counted_forwarding f.went (pushes f.low.taken) (pushes f.high.taken))) w.forwarders of_link (λ k f at. each k f at)
      ∙ ap (λ (n : ℕ). sum_to n of_link) h.forwarder_count
    where
      each : (l : ℕ) (f : Forwarder K) → slice_get w.forwarders l ≡ Some f → of_link l ≡ count test (counted_forwarding f.went (pushes f.low.taken) (pushes f.high.taken))
      each l f at =
          ap (λ (x : List (Handed K)). count test (counted_forwarding x ((views_of R w).forwarded (link_pipe R false l)) ((views_of R w).forwarded (link_pipe R true l)))) (read_is (λ (f : Forwarder K). f.went) w.forwarders l f at)
          ∙ (ap (λ (x : List (Pushed _)). count test (counted_forwarding f.went x ((views_of R w).forwarded (link_pipe R true l)))) (low_passed R w closed h l ∙ passed_low w.forwarders l f at)
          ∙ ap (λ (x : List (Pushed _)). count test (counted_forwarding f.went (pushes f.low.taken) x)) (high_passed R w closed h l ∙ passed_high w.forwarders l f at))

  pub adds : total of_test (all_raised R w) ≡ all_counts R (views_of R w) (slow_views R w) (went_at w) test
  adds =
      let rs = map (λ (r : Receiver K). counted_receiving r.log) w.receivers in
      let ps = map (λ (p : Processor K). counted_working R p.log) w.processors in
      let fs = map (λ (f : Forwarder K). counted_forwarding f.went (pushes f.low.taken) (pushes f.high.taken)) w.forwarders in
      let a = total-append of_test rs (ps ++ (counted_answering w.slow.log ∷ fs)) in
      let b = total-append of_test ps (counted_answering w.slow.log ∷ fs) in
      let c = receiving in
      let d = working in
      let e = forwarding in
      omega arith

pub adds_up : (K : Kinds) → AddsUp K
adds_up K R w closed h test = adds R w closed h test
