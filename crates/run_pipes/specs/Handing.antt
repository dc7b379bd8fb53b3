-- Ends in the workers' hands.
use Rattle.std.specs.Prelude.{◌≡◌, ℕ, Bool, false, List, [], slice_get, Some}
use Rattle.order_laws.specs.Deeds.{Each, has_mark}
use Rattle.ruled_pipe.specs.Producer.{Sender}
use Rattle.worker_laws.specs.Ends.{pushes}
use Rattle.worker_parts.specs.Outlet.{Offering, IsMarked}

module _ {T : Type 0} where
  -- each pushed no closing mark, and an end mark only as its last push
  abbrev pub AreMarked : List (Offering T) → Type 0
  AreMarked os = Each (λ (o : Offering T). IsMarked o.sender o.ended) os

  -- none of them ever closed its pipe
  abbrev pub NeverClosed : List (Sender T) → Type 0
  NeverClosed ends = (j : ℕ) (s : Sender T) → slice_get ends j ≡ Some s → has_mark (pushes s.offers) ≡ false

  -- to the pipes that aren't used nothing was offered
  abbrev pub AreSpared : (uses : ℕ → Bool) → List (Sender T) → Type 0
  AreSpared uses ends = (j : ℕ) (s : Sender T) → slice_get ends j ≡ Some s → uses j ≡ false → s.offers ≡ []
