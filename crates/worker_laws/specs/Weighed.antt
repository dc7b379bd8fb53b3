-- Every packet that a receiver numbered stands at exactly one place: the sums of the counts, weighed by the packets' names.
use Rattle.std.specs.Prelude.{◌≡◌, ℕ, ◌+◌, List}
use Rattle.order_laws.specs.Kinds.{Kinds}
use Rattle.order_laws.specs.Item.{Arrival, Outgoing}
use Rattle.order_laws.specs.Rules.{Rules}
use Rattle.order_laws.specs.Counts.{total}
use Rattle.order_laws.specs.Deeds.{payloads, Ending, Accepted, Refused, Lacked, Counted, Deed, done_items}
use Rattle.order_laws.specs.Settled.{SlowPathRequest, Views}
use Rattle.order_laws.specs.Counted.{sum_to, is_offer, SlowViews, place_of, link_pipes}

module _ {C : Type 0} where
  abbrev pub lost_by : Ending C → ℕ → ℕ
  lost_by Accepted n = 0
  lost_by Refused n = 0
  lost_by Lacked n = n
  lost_by (Counted c) n = n

module _ {C X : Type 0} where
  -- of the deeds that pushed nothing and were refused nothing
  abbrev pub lost : (X → ℕ) → List (Deed C X) → ℕ
  lost f log = total (λ d. lost_by d.end (f d.item)) log

module _ {C X Y Z : Type 0} where
  -- what was pushed or refused has the weight of the item that it was made of
  abbrev pub IsWeighed : (m : ℕ) → (ℕ → X → List Y) → (X → List Z) → (X → ℕ) → (Y → ℕ) → (Z → ℕ) → Deed C X → Type 0
  IsWeighed m makes side f g h d = is_offer d.end (sum_to m (λ k. total g (makes k d.item)) + total h (side d.item) ≡ f d.item)

module _ {K : Kinds} (w : (link number : ℕ) → ℕ) where
  abbrev pub arrival_weight : Arrival K → ℕ
  arrival_weight x = w x.link x.number

  abbrev pub request_weight : SlowPathRequest K → ℕ
  request_weight q = w q.arrival.link q.arrival.number

  abbrev pub outgoing_weight : Outgoing K → ℕ
  outgoing_weight o = w o.arrived o.number

module _ {K : Kinds} (w : (link number : ℕ) → ℕ) where
  -- all that a receiver numbered, and all places where it may have ended: handed to a sink, refused at a full pipe, counted
  -- without a push, swept
  abbrev pub numbered : Rules K → Views K → ℕ
  numbered R v = sum_to R.links (λ p. total (arrival_weight w) (done_items (v.received p)))

  abbrev pub places : Rules K → Views K → SlowViews K → ℕ
  places R v s =
      sum_to (link_pipes R) (λ j. total (outgoing_weight w) (v.handed (place_of R j)))
      + (sum_to R.links (λ p. sum_to R.processors (λ i. total (arrival_weight w) (v.arrived_full p i)))
      + (sum_to R.processors (λ i. sum_to (link_pipes R) (λ j. total (outgoing_weight w) (v.leaving_full i (place_of R j)))) + sum_to (link_pipes R) (λ j. total (outgoing_weight w) (s.leaving_full (place_of R j))))
      + sum_to R.processors (λ i. total (request_weight w) (v.asked_full i))
      + (sum_to R.links (λ p. lost (arrival_weight w) (v.received p)) + sum_to R.processors (λ i. lost (arrival_weight w) (v.worked i)) + lost (request_weight w) s.worked)
      + sum_to (link_pipes R) (λ j. total (outgoing_weight w) (v.swept (place_of R j))))

  -- with the weight that is 1 for one packet alone and else 0, that packet stands at one of these places, once
  abbrev pub IsPlaced : Rules K → Views K → SlowViews K → Type 0
  IsPlaced R v s = numbered R v ≡ places R v s

  -- what went through the processors' pipes, the slow path's, the links'
  abbrev pub through_processors : Rules K → Views K → ℕ
  through_processors R v = sum_to R.processors (λ i. total (arrival_weight w) (payloads (v.taken i)))

  abbrev pub through_slow : SlowViews K → ℕ
  through_slow s = total (request_weight w) (payloads s.taken)

  abbrev pub through_links : Rules K → Views K → ℕ
  through_links R v = sum_to (link_pipes R) (λ j. total (outgoing_weight w) (payloads (v.forwarded (place_of R j))))
