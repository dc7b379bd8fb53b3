-- New shares, which the workers get one by one, in the order of their places in the book.
use Rattle.std.specs.Prelude.{◌≡◌, ◌+◌, ◌≤◌, ℕ, List, length}
use Rattle.packet_ledger.specs.Share.{AreNew, Held}

-- at least n new shares, from this place on
pub record AreNewShares (place n : ℕ) (xs : List Held) : Type 0 where
  pub each : AreNew place xs
  pub enough : n ≤ length xs

-- n of them were taken
pub record HaveGone (place n : ℕ) (old new : List Held) : Type 0 where
  pub each : AreNew (place + n) new
  pub count : n + length new ≡ length old
