-- The departures among items.
use Rattle.std.specs.Prelude.{ℕ, Bool, false, ◌&&◌, not, ◌==◌, List, []}
use Rattle.std.specs.List.{list_any}
use Rattle.order_laws.specs.Expected.{Departure, departure_if}
use Rattle.order_laws.specs.Item.{Arrival, Item, Arrived, Out}
use Rattle.order_laws.specs.Kinds.{Kinds}

module _ {K : Kinds} where
  -- the packets of link a among items, no answers, whose number is wanted
  abbrev pub sends_of : (a : ℕ) → (ℕ → Bool) → Item K → List (Departure K)
  sends_of a wanted (Out o) = departure_if ((o.arrived == a) && (not o.answer && wanted o.number)) (record { number = o.number; parcel = o.parcel })
  sends_of a wanted _ = []

  -- the number n is that of one of the wanted arrivals
  abbrev pub is_number_of : (Arrival K → Bool) → (n : ℕ) → Item K → Bool
  is_number_of mine n (Arrived x) = (x.number == n) && mine x
  is_number_of mine n _ = false

  abbrev pub numbers_of : (Arrival K → Bool) → List (Item K) → (n : ℕ) → Bool
  numbers_of mine xs n = list_any (is_number_of mine n) xs
