-- What a running worker did, and what its ends of the pipes tell of it.
use Rattle.std.specs.Prelude.{◌≡◌, ℕ, Bool, true, false, ◌||◌, ◌==◌, if◌then◌else◌, List, [], ◌∷◌, map}
use Rattle.std.specs.List.{flat_map, filter}

-- what stands in a running pipe: a payload or a mark
pub data Load (X : Type 0) : Type 0 where
  Payload : X → Load X
  CloseMark : Load X
  EndMark : Load X

-- an item, with its producer's number among those of the pipe
pub record Pushed (X : Type 0) : Type 0 where
  pub from : ℕ
  pub load : Load X

module _ {X : Type 0} where
  abbrev pub payload_of : Load X → List X
  payload_of (Payload x) = x ∷ []
  payload_of CloseMark = []
  payload_of EndMark = []

  abbrev pub payloads : List (Pushed X) → List X
  payloads es = flat_map (λ (e : Pushed X). payload_of e.load) es

  abbrev pub of_producer : ℕ → List (Pushed X) → List (Pushed X)
  of_producer p es = filter (λ (e : Pushed X). e.from == p) es

  abbrev pub closes : Load X → Bool
  closes (Payload x) = false
  closes CloseMark = true
  closes EndMark = false

  abbrev pub has_mark : List (Pushed X) → Bool
  has_mark [] = false
  has_mark (e ∷ es) = closes e.load || has_mark es

  -- what was taken before the first closing mark, and from there on
  abbrev pub before_mark : List (Pushed X) → List (Pushed X)
  before_mark [] = []
  before_mark (e ∷ es) = if closes e.load then [] else e ∷ before_mark es

  abbrev pub from_mark : List (Pushed X) → List (Pushed X)
  from_mark [] = []
  from_mark (e ∷ es) = if closes e.load then e ∷ es else from_mark es

  abbrev pub Each : (X → Type 0) → List X → Type 0
  Each P [] = Unit {0}
  Each P (x ∷ xs) = P x × Each P xs

-- what became of an item that a worker had in hand
pub data Ending (C : Type 0) : Type 0 where
  Accepted : Ending C  -- what was made of it was pushed
  Refused : Ending C  -- the pipe was full
  Lacked : Ending C  -- there was no memory or no buffer to push it with
  Counted : C → Ending C  -- nothing was to be pushed

pub record Deed (C X : Type 0) : Type 0 where
  pub item : X
  pub end : Ending C

module _ {C Y : Type 0} where
  abbrev pub if_accepted : Ending C → List Y → List Y
  if_accepted Accepted ys = ys
  if_accepted Refused ys = []
  if_accepted Lacked ys = []
  if_accepted (Counted c) ys = []

  abbrev pub if_refused : Ending C → List Y → List Y
  if_refused Accepted ys = []
  if_refused Refused ys = ys
  if_refused Lacked ys = []
  if_refused (Counted c) ys = []

  abbrev pub if_lacked : Ending C → List Y → List Y
  if_lacked Accepted ys = []
  if_lacked Refused ys = []
  if_lacked Lacked ys = ys
  if_lacked (Counted c) ys = []

module _ {C : Type 0} where
  abbrev pub is_counted : Ending C → Type 0 → Type 0
  is_counted Accepted P = Unit {0}
  is_counted Refused P = Unit {0}
  is_counted Lacked P = Unit {0}
  is_counted (Counted c) P = P

  abbrev pub if_counted : Ending C → (C → Type 0) → Type 0
  if_counted Accepted P = Unit {0}
  if_counted Refused P = Unit {0}
  if_counted Lacked P = Unit {0}
  if_counted (Counted c) P = P c

module _ {C X : Type 0} where
  -- what the worker had in hand, in order
  abbrev pub done_items : List (Deed C X) → List X
  done_items log = map (λ (d : Deed C X). d.item) log

module _ {C X Y : Type 0} where
  abbrev pub accepted : (X → List Y) → Deed C X → List Y
  accepted makes d = if_accepted d.end (makes d.item)

  abbrev pub refused : (X → List Y) → Deed C X → List Y
  refused makes d = if_refused d.end (makes d.item)

  abbrev pub lacked : (X → List Y) → Deed C X → List Y
  lacked makes d = if_lacked d.end (makes d.item)

  -- what one end of a pipe tells, against what its holder did: accepted pushes and refused payloads, in order
  abbrev pub Tells : (X → List Y) → List (Deed C X) → List (Pushed Y) → List Y → Type 0
  Tells makes log offers refusals = (payloads offers ≡ flat_map (accepted makes) log) × (refusals ≡ flat_map (refused makes) log)
