-- The buffers of a receiver.
use Rattle.std.specs.Prelude.{◌≡◌, ◌⊎◌, ℕ, List, [], ◌∷◌, ◌++◌, Option, Some, None}
use Rattle.ruled_pipe.specs.declared.entry.Entry.{Entry}
use Rattle.ruled_pipe.specs.declared.entry.Load.{Load}
use Rattle.ruled_pipe.specs.declared.entry.Load.TheVariants.{Payload, Marked}
use Rattle.ruled_pipe.specs.Consumer.{Taker, looked, took}

-- a buffer in reserve, and the pipe of the free ones
pub record Stock : Type 0 where
  pub spare : Option (List ℕ)
  pub free : Taker (List ℕ)

-- and the buffer into which datagrams are read
pub record Pooled : Type 0 where
  pub room : List ℕ
  pub stock : Stock

abbrev pub stock : Option (List ℕ) → Taker (List ℕ) → Stock
stock spare free = record { spare = spare; free = free }

-- the buffer of an entry
abbrev pub buffer_in : Load (List ℕ) → Option (List ℕ)
buffer_in (Payload b) = Some b
buffer_in (Marked m) = None

-- nobody pushes marks there; one that is met is passed over
abbrev pub AreMarks : List (Entry (List ℕ)) → Type 0
AreMarks [] = Unit {0}
AreMarks (e ∷ es) = (buffer_in e.load ≡ None) × AreMarks es

abbrev pub passed : Taker (List ℕ) → List (Entry (List ℕ)) → Taker (List ℕ)
passed t es = record { pipe = t.pipe; producers = t.producers; capacity = t.capacity; taken = t.taken ++ es; looks = t.looks }

abbrev pub Found : List ℕ → Taker (List ℕ) → Taker (List ℕ) → Type 0
Found buffer old new = (marks : List (Entry (List ℕ))) × (e : Entry (List ℕ)) × AreMarks marks × (buffer_in e.load ≡ Some buffer) × (new ≡ took (passed old marks) e)

abbrev pub FoundNone : Taker (List ℕ) → Taker (List ℕ) → Type 0
FoundNone old new = (marks : List (Entry (List ℕ))) × AreMarks marks × (new ≡ looked (passed old marks))

-- another buffer: the one in reserve, else one of the pipe; there is none only where the pipe was seen empty
abbrev pub Another : Stock → Option (List ℕ) → Stock → Type 0
Another old (Some buffer) new = ((old.spare ≡ Some buffer) × (new ≡ stock None old.free)) ⊎ ((old.spare ≡ None) × (new.spare ≡ None) × Found buffer old.free new.free)
Another old None new = (old.spare ≡ None) × (new.spare ≡ None) × FoundNone old.free new.free
