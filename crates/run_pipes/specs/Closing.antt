-- How a link is closed: by a closing mark in each of its pipes, one a band.
use Rattle.std.specs.Prelude.{◌≡◌, ◌+◌, ◌*◌, ◌<◌, ℕ, Bool, true, List, Result, Ok, Err, slice_get, slice_index_or}
use Rattle.process_packet.specs.declared.config.Config.{Config}
use Rattle.router_rules.specs.Links.{has_two_bands, link_count, link_index}
use Rattle.ruled_pipe.specs.Pipe.{Shape}
use Rattle.run_ends.specs.Shutting.{AreUnended, AreShutters, Closes, Shutting, closed_at}
use Rattle.run_pipes.specs.declared.closing.CloseFault.{CloseFault}
use Rattle.run_pipes.specs.declared.closing.CloseFault.TheVariants.{Full, Unknown, AlreadyClosed}

module _ {T : Type 0} where
  -- The closing mark of the pipe at a place was there before, or it was tried once: pushed, or refused by a full pipe.
  pub record TriesAt (at : ℕ) (old new : List (Shutting T)) : Type 0 where
    pub is_there : Bool
    pub closes : (d : Shutting T) → Closes is_there (slice_index_or old at d) (slice_index_or new at d)

  -- so also each missing one of a link whose low band's pipe is this one; the other pipes' ends are as they were
  pub record TriesMarks (two : Bool) (first : ℕ) (old new : List (Shutting T)) : Type 0 where
    pub low : TriesAt first old new
    pub high : two ≡ true → TriesAt (first + 1) old new
    pub others : (j : ℕ) → (j ≡ first → ⊥) → (two ≡ true → j ≡ first + 1 → ⊥) → slice_get new j ≡ slice_get old j

  -- all its closing marks are there
  abbrev pub AreClosed : Bool → ℕ → List (Shutting T) → Type 0
  AreClosed two low hs = (closed_at hs low ≡ true) × (two ≡ true → closed_at hs (low + 1) ≡ true)

  -- Its marks are all there now, and were not before; or one was refused; or nothing changed.
  abbrev pub ClosesMarks : Bool → ℕ → Result (Unit {0}) CloseFault → List (Shutting T) → List (Shutting T) → Type 0
  ClosesMarks two low (Ok x) old new = (AreClosed two low old → ⊥) × AreClosed two low new × TriesMarks two low old new
  ClosesMarks two low (Err Full) old new = (AreClosed two low new → ⊥) × TriesMarks two low old new
  ClosesMarks two low (Err AlreadyClosed) old new = AreClosed two low old × (new ≡ old)
  ClosesMarks two low (Err Unknown) old new = ⊥

  -- the same ends of the same pipes, none ended
  pub record StayEnds (old new : List (Shutting T)) : Type 0 where
    pub unended : AreUnended new
    pub same : (uses : ℕ → Bool) (k p : ℕ) (shapes : List Shape) → AreShutters uses k p shapes old → AreShutters uses k p shapes new

-- The link with an interface is closed so, if there is one.
abbrev pub Closing : {T : Type 0} → Config → ℕ → Result (Unit {0}) CloseFault → List (Shutting T) → List (Shutting T) → Type 0
Closing c id (Ok x) old new = (link_index c id < link_count c) × ClosesMarks (has_two_bands c (link_index c id)) (2 * link_index c id) (Ok x) old new
Closing c id (Err Full) old new = (link_index c id < link_count c) × ClosesMarks (has_two_bands c (link_index c id)) (2 * link_index c id) (Err Full) old new
Closing c id (Err AlreadyClosed) old new = (link_index c id < link_count c) × ClosesMarks (has_two_bands c (link_index c id)) (2 * link_index c id) (Err AlreadyClosed) old new
Closing c id (Err Unknown) old new = (link_index c id ≡ link_count c) × (new ≡ old)
