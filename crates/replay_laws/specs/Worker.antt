-- Who works, and which pipes there are.
use Rattle.std.specs.Prelude.{ℕ, Bool, true, false, ◌==◌}

pub data Worker : Type 0 where
  Receiver : ℕ → Worker  -- of an arriving link
  Processor : ℕ → Worker
  Slow : Worker  -- the slow path, which answers
  Forwarder : ℕ → Worker  -- of a leaving link
  Controller : Worker  -- closes links, and ends the run

-- A pipe is named by its consumer. The forwarder of a link with two bands has a second pipe, for the high band.
pub data Queue : Type 0 where
  Of : Worker → Queue
  High : ℕ → Queue

abbrev pub consumer : Queue → Worker
consumer (Of W) = W
consumer (High l) = Forwarder l

abbrev pub same_worker : Worker → Worker → Bool
same_worker (Receiver a) (Receiver b) = a == b
same_worker (Processor i) (Processor j) = i == j
same_worker (Forwarder l) (Forwarder k) = l == k
same_worker Slow Slow = true
same_worker Controller Controller = true
same_worker _ _ = false
