-- As many packets as the receivers of a running pipeline numbered were handed to sinks and dropped, in sum.
use Rattle.std.specs.Prelude.{◌≡◌, ◌<◌, ◌≤◌, ℕ, zero, suc, ◌+◌, ◌*◌, List, [], ◌∷◌, length}
use Rattle.order_laws.specs.Kinds.{Kinds}
use Rattle.order_laws.specs.Item.{Arrival, Outgoing}
use Rattle.order_laws.specs.Rules.{Rules}
use Rattle.order_laws.specs.Pipes.{slow_seat}
use Rattle.order_laws.specs.Deeds.{Pushed, payloads, of_producer, Each, Ending, Accepted, Refused, Lacked, Counted, Deed, done_items, Tells}
use Rattle.order_laws.specs.Settled.{SlowPathRequest, to_processor, to_link, to_slow, IsLinkPipe, Views, Settled}

-- g 0 + g 1 + .., n of them
abbrev pub sum_to : ℕ → (ℕ → ℕ) → ℕ
sum_to zero g = 0
sum_to (suc n) g = sum_to n g + g n

module _ {C : Type 0} where
  abbrev pub unsent_by : Ending C → ℕ
  unsent_by Accepted = 0
  unsent_by Refused = 0
  unsent_by Lacked = 1
  unsent_by (Counted c) = 1

  abbrev pub is_offer : Ending C → Type 0 → Type 0
  is_offer Accepted P = P
  is_offer Refused P = P
  is_offer Lacked P = Unit {0}
  is_offer (Counted c) P = Unit {0}

module _ {C X : Type 0} where
  -- how many deeds pushed nothing and were refused nothing
  abbrev pub unsent : List (Deed C X) → ℕ
  unsent [] = 0
  unsent (d ∷ log) = unsent_by d.end + unsent log

module _ {C X Y Z : Type 0} where
  -- what was pushed or refused was made for one pipe
  abbrev pub IsOne : (m : ℕ) → (ℕ → X → List Y) → (X → List Z) → Deed C X → Type 0
  IsOne m makes side d = is_offer d.end (sum_to m (λ k. length (makes k d.item)) + length (side d.item) ≡ 1)

-- nothing for the slow path
abbrev pub no_side : {X Y : Type 0} → X → List Y
no_side x = []

-- of the slow path: what it took, what it did, and its ends of the link's pipe at place q
pub record SlowViews (K : Kinds) : Type 0 where
  pub taken : List (Pushed (SlowPathRequest K))
  pub worked : List (Deed K.RuleCause (SlowPathRequest K))
  pub leaving : ℕ → List (Pushed (Outgoing K))
  pub leaving_full : ℕ → List (Outgoing K)

module _ {K : Kinds} where
  -- the place of the link's pipe number j, two of each link
  abbrev pub place_of : Rules K → ℕ → ℕ
  place_of R j = slow_seat R + 1 + j

  abbrev pub link_pipes : Rules K → ℕ
  link_pipes R = 2 * R.links

pub record Tallied {K : Kinds} (R : Rules K) (v : Views K) (w : SlowViews K) : Type 0 where
  pub settled : Settled R v
  -- what the slow path makes for the link's pipe at place q
  pub back : ℕ → SlowPathRequest K → List (Outgoing K)
  pub slow_took : payloads w.taken ≡ done_items w.worked
  pub slow_tells : (q : ℕ) → IsLinkPipe R q → Tells (back q) w.worked (w.leaving q) (w.leaving_full q)
  pub receiver_one : (p : ℕ) → p < R.links → Each (IsOne R.processors (to_processor R) (no_side {X = Arrival K} {Y = SlowPathRequest K})) (v.received p)
  pub worker_one : (i : ℕ) → i < R.processors → Each (IsOne (link_pipes R) (λ j. to_link R (place_of R j)) (to_slow R)) (v.worked i)
  pub slow_one : Each (IsOne (link_pipes R) (λ j. back (place_of R j)) (no_side {X = SlowPathRequest K} {Y = SlowPathRequest K})) w.worked
  pub requests : (i : ℕ) → i < R.processors → of_producer i w.taken ≡ v.asked i
  pub request_only : (i : ℕ) → R.processors ≤ i → of_producer i w.taken ≡ []
  -- the slow path and the controller are the last producers of a link's pipe; the controller pushes only marks
  pub egress_slow : (j : ℕ) → j < link_pipes R → of_producer R.processors (v.forwarded (place_of R j)) ≡ w.leaving (place_of R j)
  pub egress_marks : (j : ℕ) → j < link_pipes R → payloads (of_producer (suc R.processors) (v.forwarded (place_of R j))) ≡ []
  pub egress_none : (j p : ℕ) → j < link_pipes R → suc (suc R.processors) ≤ p → of_producer p (v.forwarded (place_of R j)) ≡ []

module _ {K : Kinds} where
  -- refused at processors' pipes, at the links' pipes, at the slow path's
  abbrev pub full_processors : Rules K → Views K → ℕ
  full_processors R v = sum_to R.links (λ p. sum_to R.processors (λ i. length (v.arrived_full p i)))

  abbrev pub full_links : Rules K → Views K → SlowViews K → ℕ
  full_links R v w =
      sum_to R.processors (λ i. sum_to (link_pipes R) (λ j. length (v.leaving_full i (place_of R j)))) + sum_to (link_pipes R) (λ j. length (w.leaving_full (place_of R j)))

  abbrev pub full_slow : Rules K → Views K → ℕ
  full_slow R v = sum_to R.processors (λ i. length (v.asked_full i))

  -- those that a worker counted without a push: for a reason of the rules, for want of memory or of a buffer
  abbrev pub not_offered : Rules K → Views K → SlowViews K → ℕ
  not_offered R v w = sum_to R.links (λ p. unsent (v.received p)) + sum_to R.processors (λ i. unsent (v.worked i)) + unsent w.worked

  -- received is handed to sinks, or dropped
  abbrev pub IsCounted : Rules K → Views K → SlowViews K → Type 0
  IsCounted R v w =
      sum_to R.links (λ p. length (v.received p))
      ≡ sum_to (link_pipes R) (λ j. length (v.handed (place_of R j))) + (full_processors R v + full_links R v w + full_slow R v + not_offered R v w + sum_to (link_pipes R) (λ j. length (v.swept (place_of R j))))

abbrev pub CountsOnce : Kinds → Type 0
CountsOnce K = (R : Rules K) (v : Views K) (w : SlowViews K) → Tallied R v w → IsCounted R v w
