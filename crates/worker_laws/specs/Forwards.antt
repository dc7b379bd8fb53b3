-- What a forwarder took of the two pipes of its link, and the law that it keeps.
use Rattle.std.specs.Prelude.{◌≡◌, ◌+◌, ℕ, Bool, not, List, [], ◌∷◌, ◌++◌, map, Option, Some}
use Rattle.order_laws.specs.Kinds.{Kinds}
use Rattle.order_laws.specs.Item.{Outgoing}
use Rattle.order_laws.specs.Merge.{IsMerge}
use Rattle.order_laws.specs.Counts.{count}
use Rattle.order_laws.specs.Deeds.{Pushed, payloads, has_mark, before_mark}

-- what a forwarder handed to its sink, and whether that took it
pub record Handed (K : Kinds) : Type 0 where
  pub item : Outgoing K
  pub took : Bool

module _ {X : Type 0} where
  -- one entry more, where it tells
  abbrev pub AddsTo : Option (List X) → X → Option (List X) → Type 0
  AddsTo old x new = (after : List X) → new ≡ Some after → (before : List X) × (old ≡ Some before) × (after ≡ before ++ x ∷ [])

module _ {K : Kinds} where
  -- what went to the sink is what was taken for sending of both pipes, of each in its order
  abbrev pub WentOn : (low high : List (Pushed (Outgoing K))) → List (Outgoing K) → Type 0
  WentOn low high went = IsMerge (payloads (before_mark low)) (payloads (before_mark high)) went

  abbrev pub handed_items : List (Handed K) → List (Outgoing K)
  handed_items went = map (λ (h : Handed K). h.item) went

  abbrev pub refusals_of : List (Handed K) → ℕ
  refusals_of went = count (λ (h : Handed K). not h.took) went

-- What a forwarder handed to its sink is what it took of both pipes before their closing marks; its sink, where it tells,
-- shows just that.
pub record KeepsForwarder {K : Kinds} {T : Type 0} (shows : Handed K → T) (went : List (Handed K)) (low high : List (Pushed (Outgoing K))) (low_shut high_shut : Bool) (told : Option (List T)) (began failed : ℕ) : Type 0 where
  pub order : WentOn low high (handed_items went)
  pub low_mark : low_shut ≡ has_mark low
  pub high_mark : high_shut ≡ has_mark high
  pub tells : (ts : List T) → told ≡ Some ts → ts ≡ map shows went
  pub failures : failed ≡ began + refusals_of went
