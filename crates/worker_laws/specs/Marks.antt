-- Marks that a worker tries at its ends.
use Rattle.std.specs.Prelude.{◌≡◌, ◌⊎◌, ℕ, List, length, Some, slice_get}
use Rattle.ruled_pipe.specs.declared.entry.Load.TheVariants.{Marked}
use Rattle.ruled_pipe.specs.declared.entry.Mark.{Mark}
use Rattle.ruled_pipe.specs.Producer.{Sender, entry, offered, refused}

module _ {Y : Type 0} where
  -- the end offered a mark at most, which was accepted or refused
  abbrev pub HasTried : Sender Y → Sender Y → Type 0
  HasTried s t = (t ≡ s) ⊎ ((m : Mark) × ((t ≡ offered s (entry s.number (Marked m))) ⊎ (t ≡ refused s (entry s.number (Marked m)))))

  abbrev pub EachHasTried : List (Sender Y) → List (Sender Y) → Type 0
  EachHasTried old new = (length new ≡ length old) × ((j : ℕ) (t : Sender Y) → slice_get new j ≡ Some t → (s : Sender Y) × (slice_get old j ≡ Some s) × HasTried s t)
