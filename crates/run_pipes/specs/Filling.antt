-- Pipes of free buffers, filled before a run.
use Rattle.std.specs.Prelude.{◌≡◌, ℕ, List, length}
use Rattle.ruled_pipe.specs.Producer.{Sender}
use Rattle.ruled_pipe.specs.Pipe.{Shape, IsEndOf}
use Rattle.order_laws.specs.Deeds.{payloads}
use Rattle.worker_laws.specs.Ends.{pushes}
use Rattle.worker_parts.specs.Same.{IsSameEnd}
use Rattle.run_ends.specs.Opened.{AreMadeOf}

-- the same end, with so many buffers put into its pipe
abbrev pub HasPut : ℕ → Sender (List ℕ) → Sender (List ℕ) → Type 0
HasPut buffers old new = IsSameEnd old new × (length (payloads (pushes new.offers)) ≡ buffers)

-- the producer of this number of each pipe put so many buffers into it
abbrev pub AreFilled : (number buffers : ℕ) → List Shape → List (Sender (List ℕ)) → Type 0
AreFilled number buffers ss fs = AreMadeOf (λ _ s f. IsEndOf s number f × (length (payloads (pushes f.offers)) ≡ buffers)) 0 ss fs
