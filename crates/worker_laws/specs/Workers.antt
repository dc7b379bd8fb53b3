-- The second pass: the workers as they came back, and what is read off them.
use Rattle.std.specs.Prelude.{◌≡◌, ◌<◌, ◌+◌, ◌-◌, nat_lt, ℕ, zero, suc, Bool, false, List, [], ◌∷◌, ◌++◌, map, length, Some, None, slice_get, if◌then◌else◌}
use Rattle.ruled_pipe.specs.Producer.{Sender}
use Rattle.ruled_pipe.specs.Consumer.{Taker}
use Rattle.order_laws.specs.Kinds.{Kinds}
use Rattle.order_laws.specs.Item.{Arrival, Outgoing}
use Rattle.order_laws.specs.Rules.{Rules}
use Rattle.order_laws.specs.Pipes.{slow_seat}
use Rattle.order_laws.specs.Deeds.{Pushed, payloads, before_mark, from_mark, has_mark, Deed}
use Rattle.order_laws.specs.Settled.{SlowPathRequest, Views}
use Rattle.order_laws.specs.Counted.{SlowViews, link_pipes}
use Rattle.worker_laws.specs.Ends.{pushes}
use Rattle.worker_laws.specs.Works.{Keeps}
use Rattle.worker_laws.specs.Answers.{KeepsAnswers}
use Rattle.worker_laws.specs.Receives.{KeepsReceiver}
use Rattle.worker_laws.specs.Forwards.{Handed, handed_items, WentOn}
use Rattle.worker_laws.specs.Gathers.{offers_at, refusals_at, TookAll}
use Rattle.worker_laws.specs.Ended.{Ended}

-- ---- workers: what each did, and its ends of the pipes

pub record Receiver (K : Kinds) : Type 0 where
  pub log : List (Deed K.RuleCause (Arrival K))
  pub senders : List (Sender (Arrival K))  -- one to each processor

pub record Processor (K : Kinds) : Type 0 where
  pub log : List (Deed K.RuleCause (Arrival K))
  pub taker : Taker (Arrival K)
  pub links : List (Sender (Outgoing K))  -- two to each link
  pub slow : Sender (SlowPathRequest K)

pub record SlowPath (K : Kinds) : Type 0 where
  pub log : List (Deed K.RuleCause (SlowPathRequest K))
  pub taker : Taker (SlowPathRequest K)
  pub links : List (Sender (Outgoing K))

pub record Forwarder (K : Kinds) : Type 0 where
  pub went : List (Handed K)
  pub low : Taker (Outgoing K)
  pub high : Taker (Outgoing K)

pub record Workers (K : Kinds) : Type 0 where
  pub receivers : List (Receiver K)
  pub processors : List (Processor K)
  pub slow : SlowPath K
  pub forwarders : List (Forwarder K)
  pub controller : List (Sender (Outgoing K))  -- two to each link

-- ---- what is read off them

module _ {A B : Type 0} where
  -- what worker number k has; none of them has nothing
  abbrev pub read_at : (A → List B) → List A → ℕ → List B
  read_at f [] k = []
  read_at f (x ∷ xs) zero = f x
  read_at f (x ∷ xs) (suc k) = read_at f xs k

module _ {X : Type 0} where
  -- the producers of pipe j, one of each worker
  abbrev pub IsColumn : ℕ → List (List X) → List X → Type 0
  IsColumn j [] [] = Unit {0}
  IsColumn j (r ∷ rs) (x ∷ xs) = (slice_get r j ≡ Some x) × IsColumn j rs xs
  IsColumn j _ _ = ⊥

module _ {K : Kinds} where
  abbrev pub sent_to : Workers K → ℕ → List (Sender (Arrival K))
  sent_to w p = read_at (λ (r : Receiver K). r.senders) w.receivers p

  abbrev pub taken_at : Workers K → ℕ → List (Pushed (Arrival K))
  taken_at w i = read_at (λ (p : Processor K). pushes p.taker.taken) w.processors i

  abbrev pub links_at : Workers K → ℕ → List (Sender (Outgoing K))
  links_at w i = read_at (λ (p : Processor K). p.links) w.processors i

  abbrev pub went_at : Workers K → ℕ → List (Handed K)
  went_at w l = read_at (λ (f : Forwarder K). f.went) w.forwarders l

  abbrev pub slow_ends : Workers K → List (Sender (SlowPathRequest K))
  slow_ends w = map (λ (p : Processor K). p.slow) w.processors

  -- of the pipes of the links, two of each
  abbrev pub passed_at : List (Forwarder K) → ℕ → List (Pushed (Outgoing K))
  passed_at [] j = []
  passed_at (f ∷ fs) zero = pushes f.low.taken
  passed_at (f ∷ fs) (suc zero) = pushes f.high.taken
  passed_at (f ∷ fs) (suc (suc j)) = passed_at fs j

  -- of the link's pipe at place q
  abbrev pub at_place : {X : Type 0} → Rules K → (ℕ → List X) → ℕ → List X
  at_place R g q = if nat_lt (slow_seat R) q then g (q - (slow_seat R + 1)) else []

  abbrev pub views_of : Rules K → Workers K → Views K
  views_of R w = record {
    received = λ p. read_at (λ (r : Receiver K). r.log) w.receivers p;
    arrived = λ p i. offers_at (sent_to w p) i;
    arrived_full = λ p i. refusals_at (sent_to w p) i;
    taken = λ i. taken_at w i;
    worked = λ i. read_at (λ (p : Processor K). p.log) w.processors i;
    leaving = λ i q. at_place R (offers_at (links_at w i)) q;
    leaving_full = λ i q. at_place R (refusals_at (links_at w i)) q;
    asked = λ i. offers_at (slow_ends w) i;
    asked_full = λ i. refusals_at (slow_ends w) i;
    forwarded = λ q. at_place R (passed_at w.forwarders) q;
    handed = λ q. payloads (before_mark (at_place R (passed_at w.forwarders) q));
    swept = λ q. payloads (from_mark (at_place R (passed_at w.forwarders) q));
    shut = λ q. has_mark (at_place R (passed_at w.forwarders) q);
  }

  abbrev pub slow_views : Rules K → Workers K → SlowViews K
  slow_views R w = record {
    taken = pushes w.slow.taker.taken;
    worked = w.slow.log;
    leaving = λ q. at_place R (offers_at w.slow.links) q;
    leaving_full = λ q. at_place R (refusals_at w.slow.links) q;
  }

  -- ---- pipes

  abbrev pub processor_ends : Workers K → List (List (Sender (Arrival K)))
  processor_ends w = map (λ (r : Receiver K). r.senders) w.receivers

  abbrev pub link_ends : Workers K → List (List (Sender (Outgoing K)))
  link_ends w = map (λ (p : Processor K). p.links) w.processors ++ (w.slow.links ∷ w.controller ∷ [])

-- What all workers and pipes give; the controller closed the links' pipes of some numbers.
pub record HaveEnded {K : Kinds} (R : Rules K) (w : Workers K) (closed : ℕ → Bool) : Type 0 where
  pub receiver_count : length w.receivers ≡ R.links
  pub processor_count : length w.processors ≡ R.processors
  pub forwarder_count : length w.forwarders ≡ R.links
  -- their laws
  pub receivers : (p : ℕ) (r : Receiver K) → slice_get w.receivers p ≡ Some r → KeepsReceiver R p r.log r.senders × (length r.senders ≡ R.processors)
  pub processors : (i : ℕ) (p : Processor K) → slice_get w.processors i ≡ Some p → Keeps R p.log p.taker None p.links p.slow × (length p.links ≡ link_pipes R)
  pub slow : KeepsAnswers R w.slow.log w.slow.taker w.slow.links × (length w.slow.links ≡ link_pipes R)
  pub forwarders : (l : ℕ) (f : Forwarder K) → slice_get w.forwarders l ≡ Some f → WentOn (pushes f.low.taken) (pushes f.high.taken) (handed_items f.went)
  -- what was taken of each pipe is what its producers had accepted
  pub packets : (i : ℕ) → i < R.processors → (row : List (Sender (Arrival K))) × IsColumn i (processor_ends w) row × TookAll row (taken_at w i)
  pub requests : TookAll (slow_ends w) (pushes w.slow.taker.taken)
  pub egress_packets : (j : ℕ) → j < link_pipes R → (row : List (Sender (Outgoing K))) × IsColumn j (link_ends w) row × TookAll row (passed_at w.forwarders j)
  -- the controller pushes only marks, and it alone pushes closing marks
  pub controller_count : length w.controller ≡ link_pipes R
  pub controller : (j : ℕ) (s : Sender (Outgoing K)) → slice_get w.controller j ≡ Some s → payloads (pushes s.offers) ≡ []
  pub closes : (j : ℕ) (s : Sender (Outgoing K)) → slice_get w.controller j ≡ Some s → has_mark (pushes s.offers) ≡ closed j
  pub processors_close_none : (i j : ℕ) (p : Processor K) (s : Sender (Outgoing K)) → slice_get w.processors i ≡ Some p → slice_get p.links j ≡ Some s → has_mark (pushes s.offers) ≡ false
  pub slow_closes_none : (j : ℕ) (s : Sender (Outgoing K)) → slice_get w.slow.links j ≡ Some s → has_mark (pushes s.offers) ≡ false

-- Workers that keep their laws, over pipes that were drained, have ended.
abbrev pub Composes : Kinds → Type 0
Composes K = (R : Rules K) (w : Workers K) (closed : ℕ → Bool) → HaveEnded R w closed → Ended R (views_of R w) (slow_views R w) (went_at w) closed
