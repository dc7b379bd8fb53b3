-- What contracts see of a producer, and its two steps.
use Rattle.std.specs.Prelude.{◌≡◌, ℕ, ◌≤◌, List, [], ◌∷◌, ◌++◌, length, take, All}
use Rattle.atomic_table.specs.Seated.{TableId}
use Rattle.ruled_pipe.specs.declared.entry.Entry.{Entry}
use Rattle.ruled_pipe.specs.declared.entry.Load.{Load}
use Rattle.ruled_pipe.specs.declared.entry.Refusal.{Refusal}
use Rattle.ruled_pipe.specs.Rule.{of_producer}

-- a producer: its pipe, its number, how many producers the pipe has, its capacity, its accepted offers and its refusals
pub record Sender (T : Type 0) : Type 0 where
  pub pipe : TableId
  pub number : ℕ
  pub producers : ℕ
  pub capacity : ℕ
  pub offers : List (Entry T)
  pub refusals : List (Refusal T)

module _ {T : Type 0} where
  abbrev pub entry : ℕ → Load T → Entry T
  entry p load = record { from = p; load = load }

  abbrev pub refusal : Entry T → ℕ → Refusal T
  refusal e before = record { entry = e; before = before }

  -- a producer after an accepted offer, and after a refused one
  abbrev pub offered : Sender T → Entry T → Sender T
  offered s e = record { pipe = s.pipe; number = s.number; producers = s.producers; capacity = s.capacity; offers = s.offers ++ e ∷ []; refusals = s.refusals }

  abbrev pub refused : Sender T → Entry T → Sender T
  refused s e = record { pipe = s.pipe; number = s.number; producers = s.producers; capacity = s.capacity; offers = s.offers; refusals = s.refusals ++ refusal e (length s.offers) ∷ [] }

  -- where the push was refused, as many entries as the capacity were held, and with some that were taken before, the producer's entries were those accepted before, and there were none but of the producers
  abbrev pub WasFull : ℕ → ℕ → ℕ → List (Entry T) → Refusal T → Type 0
  WasFull producers p capacity offers r =
      (r.entry.from ≡ p) × (r.before ≤ length offers)
      × ((earlier : List (Entry T)) × (held : List (Entry T)) × (length held ≡ capacity) × (of_producer p (earlier ++ held) ≡ take r.before offers)
      × ((q : ℕ) → producers ≤ q → of_producer q (earlier ++ held) ≡ []))

  abbrev pub AllFull : ℕ → ℕ → ℕ → List (Entry T) → List (Refusal T) → Type 0
  AllFull producers p capacity offers refusals = All (WasFull producers p capacity offers) refusals

  -- a producer of a new pipe
  abbrev pub new_sender : TableId → ℕ → ℕ → ℕ → Sender T
  new_sender pipe number producers capacity = record { pipe = pipe; number = number; producers = producers; capacity = capacity; offers = []; refusals = [] }
