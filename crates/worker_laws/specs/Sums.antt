-- The third pass: what all workers counted, share by share.
use Rattle.std.specs.Prelude.{◌≡◌, ℕ, Bool, List, ◌∷◌, ◌++◌, map}
use Rattle.order_laws.specs.Kinds.{Kinds}
use Rattle.order_laws.specs.Rules.{Rules}
use Rattle.order_laws.specs.Counts.{total, count}
use Rattle.worker_laws.specs.Ends.{pushes}
use Rattle.worker_laws.specs.Counting.{Count, counted_receiving, counted_working, counted_answering, counted_forwarding}
use Rattle.worker_laws.specs.Causes.{all_counts}
use Rattle.worker_laws.specs.Workers.{Receiver, Processor, Forwarder, Workers, views_of, slow_views, went_at, HaveEnded}

module _ {K : Kinds} where
  -- of the receivers, the processors, the slow path and the forwarders, in this order
  abbrev pub all_raised : Rules K → Workers K → List (List (Count K))
  all_raised R w =
      map (λ (r : Receiver K). counted_receiving r.log) w.receivers
      ++ (map (λ (p : Processor K). counted_working R p.log) w.processors
      ++ (counted_answering w.slow.log ∷ map (λ (f : Forwarder K). counted_forwarding f.went (pushes f.low.taken) (pushes f.high.taken)) w.forwarders))

abbrev pub AddsUp : Kinds → Type 0
AddsUp K = (R : Rules K) (w : Workers K) (closed : ℕ → Bool) → HaveEnded R w closed → (test : Count K → Bool) → total (λ ks. count test ks) (all_raised R w) ≡ all_counts R (views_of R w) (slow_views R w) (went_at w) test
