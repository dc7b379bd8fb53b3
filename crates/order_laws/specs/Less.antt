-- What the sequential router sends, less the packets that were dropped on the way to a forwarder.
use Rattle.std.specs.Prelude.{ℕ, Bool, true, false, ◌&&◌, not, ◌==◌, List}
use Rattle.std.specs.List.{filter, list_any}
use Rattle.order_laws.specs.Cause.{Cause}
use Rattle.order_laws.specs.Expected.{Departure}
use Rattle.order_laws.specs.Kinds.{Kinds}
use Rattle.order_laws.specs.Fate.{Fate}

module _ {K : Kinds} where
  -- causes that end a packet before a forwarder took it for sending
  abbrev pub is_early : Cause K → Bool
  is_early Cause.ProcessorFull = true
  is_early Cause.LinkFull = true
  is_early Cause.AnswerFull = true
  is_early Cause.NoMemory = true
  is_early Cause.Closed = true
  is_early Cause.NoBuffer = true
  is_early _ = false

  abbrev pub is_drop_of : ℕ → ℕ → Fate K → Bool
  is_drop_of a n x = (x.link == a) && ((x.number == n) && is_early x.cause)

  abbrev pub is_dropped : List (Fate K) → ℕ → ℕ → Bool
  is_dropped F a n = list_any (is_drop_of a n) F

  -- what is expected of link a, less the packets counted as dropped
  abbrev pub less : List (Fate K) → ℕ → List (Departure K) → List (Departure K)
  less F a xs = filter (λ x. not (is_dropped F a x.number)) xs
