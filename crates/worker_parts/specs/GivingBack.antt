-- Free buffers that go back to their link.
use Rattle.std.specs.Prelude.{◌⊎◌, ℕ, List}
use Rattle.ruled_pipe.specs.Producer.{Sender}
use Rattle.worker_laws.specs.Works.{SentOn, TurnedAway}

-- a buffer was offered to the free ones of a link: accepted, or refused and let go
abbrev pub GaveBack : ℕ → List ℕ → List (Sender (List ℕ)) → List (Sender (List ℕ)) → Type 0
GaveBack link buffer old new = SentOn link buffer old new ⊎ TurnedAway link buffer old new
