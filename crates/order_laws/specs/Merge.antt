-- One list out of two.
use Rattle.std.specs.Prelude.{◌≡◌, ◌⊎◌, List, [], ◌∷◌}
use Rattle.order_laws.specs.Item.{Outgoing}
use Rattle.order_laws.specs.Kinds.{Kinds}

module _ {K : Kinds} where
  -- one list has the elements of two, those of each in its order
  abbrev pub IsMerge : List (Outgoing K) → List (Outgoing K) → List (Outgoing K) → Type 0
  IsMerge xs ys [] = (xs ≡ []) × (ys ≡ [])
  IsMerge xs ys (z ∷ zs) = ((r : List (Outgoing K)) × (xs ≡ z ∷ r) × IsMerge r ys zs) ⊎ ((r : List (Outgoing K)) × (ys ≡ z ∷ r) × IsMerge xs r zs)
