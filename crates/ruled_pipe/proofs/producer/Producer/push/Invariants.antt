use Rattle.std.proofs.Common.{[], ◌∷◌, length}
use Rattle.ruled_pipe.specs.Rule.{known_by}
use Rattle.ruled_pipe.specs.Producer.{refusal}
use Rattle.ruled_pipe.proofs.producer.Producer.push.Given as goal

abbrev pub ghosts-note_refusal : goal.ghosts-note_refusal
ghosts-note_refusal g a = record { added = refusal a.entry.now (length (known_by a.seat.now).offers) ∷ [] }
