use Rattle.std.proofs.Common.{[], ◌∷◌, length}
use Rattle.ruled_pipe.specs.Rule.{known_by}
use Rattle.ruled_pipe.proofs.consumer.Consumer.take.Given as goal

abbrev pub ghosts-note_look : goal.ghosts-note_look
ghosts-note_look g a = record { added = length (known_by a.seat.now).taken ∷ [] }
