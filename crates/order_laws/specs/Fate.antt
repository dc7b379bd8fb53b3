-- A packet, or the answer to it, that ended without being sent, and why.
use Rattle.std.specs.Prelude.{ℕ}
use Rattle.order_laws.specs.Cause.{Cause}
use Rattle.order_laws.specs.Kinds.{Kinds}

-- by its arriving link and its number there
pub record Fate (K : Kinds) : Type 0 where
  pub link : ℕ
  pub number : ℕ
  pub cause : Cause K
