-- What the sequential router sends: each packet by the decision alone, one after the other. It knows no processor and no pipe.
use Rattle.std.specs.Prelude.{ℕ, Bool, ◌&&◌, not, ◌==◌, if◌then◌else◌, List, [], ◌∷◌, ◌++◌}
use Rattle.order_laws.specs.Kinds.{Kinds}
use Rattle.order_laws.specs.Item.{Arrival, Item, Arrived}
use Rattle.order_laws.specs.Rules.{Rules, Decision, Sends, Asks, Drops}

-- a packet as it leaves: its number on its arriving link, and what leaves
pub record Departure (K : Kinds) : Type 0 where
  pub number : ℕ
  pub parcel : K.Parcel

-- The packets of a flow keep their order. On a link with two bands those of a key are two flows.
pub record Flow (K : Kinds) : Type 0 where
  pub key : K.Key
  pub urgent : Bool

abbrev pub both : Bool → Bool → Bool
both b c = if b then c else not c

module _ {K : Kinds} where
  abbrev pub departure_if : Bool → Departure K → List (Departure K)
  departure_if b o = if b then o ∷ [] else []

  abbrev pub sent_to : ℕ → ℕ → Decision K → List (Departure K)
  sent_to l n (Sends k y) = departure_if (k == l) (record { number = n; parcel = y })
  sent_to l n (Asks p) = []
  sent_to l n (Drops c) = []

  abbrev pub only : Bool → List (Departure K) → List (Departure K)
  only b xs = if b then xs else []

  -- what the sequential router sends on link l of some of the arrivals, by number
  abbrev pub expected : Rules K → (Arrival K → Bool) → (l : ℕ) → List (Item K) → List (Departure K)
  expected R mine l [] = []
  expected R mine l (Arrived x ∷ xs) = only (mine x) (sent_to l x.number (R.decide x)) ++ expected R mine l xs
  expected R mine l (_ ∷ xs) = expected R mine l xs

  abbrev pub is_of : Rules K → Flow K → Arrival K → Bool
  is_of R f x = R.same_key (R.key x) f.key && both f.urgent (R.urgent x)

  abbrev pub has_key : Rules K → K.Key → Arrival K → Bool
  has_key R k x = R.same_key (R.key x) k
