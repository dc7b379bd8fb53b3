-- The rule of a pipe: what its queue holds, against what each seat knows.
use Rattle.std.specs.Prelude.{◌≡◌, ℕ, ◌<◌, ◌≤◌, eqb, true, false, List, [], ◌++◌, length, filter, slice_get, Some}
use mathlib.Core.Option.{Option, some, none}
use lib.ListN.{get_elem?}
use Rattle.ruled_pipe.specs.declared.entry.Entry.{Entry}
use Rattle.ruled_pipe.specs.declared.entry.Refusal.{Refusal}
use Rattle.ruled_pipe.specs.declared.rule.Left.{Left}
use Rattle.ruled_pipe.specs.declared.rule.Size.{Size}
use Rattle.ruled_pipe.specs.declared.rule.View.{View}
use Rattle.crossbeam_queue.specs.Passes.{Pass, view}

abbrev pub size_of : ℕ → ℕ → Size
size_of capacity producers = record { capacity = capacity; producers = producers }

module _ {T : Type 0} where
  -- what a seat knows
  abbrev pub known_by : Pass (Entry T) (View T) → View T
  known_by seat = view seat

  -- the entries of one producer, in order
  abbrev pub of_producer : ℕ → List (Entry T) → List (Entry T)
  of_producer p es = filter (λ (e : Entry T). eqb e.from p) es

  -- the seat of producer p
  abbrev pub producer : ℕ → Size → List (Entry T) → View T
  producer p size offers = record { sends = true; takes = false; keeps = false; from = p; made = 0; size = size; offers = offers; taken = []; known = [] }

  -- producer p, which has left
  abbrev pub left : ℕ → List (Entry T) → List (Refusal T) → Left T
  left p offers refusals = record { number = p; offers = offers; refusals = refusals }

  -- the consumer's seat
  abbrev pub consumer : Size → List (Entry T) → View T
  consumer size taken = record { sends = false; takes = true; keeps = false; from = 0; made = 0; size = size; offers = []; taken = taken; known = [] }

  -- the keeper's seat: how many producers it made, and what those that have left had seen
  abbrev pub keeper : ℕ → Size → List (Left T) → View T
  keeper made size known = record { sends = false; takes = false; keeps = true; from = 0; made = made; size = size; offers = []; taken = []; known = known }

  -- the keeper's seat with the consumer's in it
  abbrev pub both_of : ℕ → Size → List (Entry T) → List (Left T) → View T
  both_of made size taken known = record { sends = false; takes = true; keeps = true; from = 0; made = made; size = size; offers = []; taken = taken; known = known }

  -- a spent seat
  abbrev pub nobody : View T
  nobody = record { sends = false; takes = false; keeps = false; from = 0; made = 0; size = size_of 0 0; offers = []; taken = []; known = [] }

  -- a producer's offers are its entries among all, it has one seat, and its number is below the number of producers
  abbrev pub FitsProducer : Size → (ℕ → Option ℕ) → List (Entry T) → ℕ → View T → Type 0
  FitsProducer size seat all pass v = v.sends ≡ true → (v.size ≡ size) × (seat v.from ≡ some pass) × (v.offers ≡ of_producer v.from all) × (v.from < size.producers)

  -- the one consumer knows what was taken
  abbrev pub FitsConsumer : Size → ℕ → List (Entry T) → ℕ → View T → Type 0
  FitsConsumer size reader taken pass v = v.takes ≡ true → (v.size ≡ size) × (pass ≡ reader) × (v.taken ≡ taken)

  -- the one keeper knows that there are no other producers than those it made, and what those that have left had offered
  abbrev pub FitsKeeper : Size → ℕ → (ℕ → Option ℕ) → List (Entry T) → ℕ → View T → Type 0
  FitsKeeper size holder seat all pass v =
      v.keeps ≡ true
      → (v.size ≡ size) × (pass ≡ holder)
      × ((p : ℕ) → v.made ≤ p → (seat p ≡ none) × (of_producer p all ≡ []))
      × ((k : ℕ) (l : Left T) → slice_get v.known k ≡ Some l → (seat k ≡ none) × (l.offers ≡ of_producer k all))

  -- All that was ever pushed is what was taken and then what is held. Each producer's entries in it are its offers, in order, and no more are held than the capacity
  pub record Piped (held : List (Entry T)) (views : List (View T)) : Type 0 where
    pub size : Size
    pub reader : ℕ
    pub holder : ℕ
    pub seat : ℕ → Option ℕ
    pub taken : List (Entry T)
    pub room : length held ≤ size.capacity
    pub numbered : (p : ℕ) → size.producers ≤ p → of_producer p (taken ++ held) ≡ []
    pub fits : (pass : ℕ) (v : View T) → get_elem? views pass ≡ some v → FitsProducer size seat (taken ++ held) pass v × FitsConsumer size reader taken pass v × FitsKeeper size holder seat (taken ++ held) pass v

  -- in some list taken followed by the list held, these are the producer's entries, in order, and there are none but of the producers
  abbrev pub Placed : ℕ → ℕ → List (Entry T) → List (Entry T) → Type 0
  Placed producers p offers held = (taken : List (Entry T)) × (of_producer p (taken ++ held) ≡ offers) × ((q : ℕ) → producers ≤ q → of_producer q (taken ++ held) ≡ [])

  -- the whole pipe: each producer's entries in what was taken and is held are its offers, in order; there are no others; no more are held than the capacity
  abbrev pub Ended : ℕ → ℕ → List (Left T) → List (Entry T) → List (Entry T) → Type 0
  Ended made capacity known taken held =
      (length held ≤ capacity)
      × ((p : ℕ) (l : Left T) → slice_get known p ≡ Some l → of_producer p (taken ++ held) ≡ l.offers)
      × ((p : ℕ) → made ≤ p → of_producer p (taken ++ held) ≡ [])
