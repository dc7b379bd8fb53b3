-- What `route` writes: an answer for each line, where the reader's bytes are known.
use Rattle.std.specs.Prelude.{ℕ, suc, List, [], ◌∷◌, ◌++◌, Option, Some, None, Result}
use Rattle.cli_io.specs.Lines.{lines_of}
use Rattle.cli_io.specs.declared.fault.LinesFault.{LinesFault}
use Rattle.cli_io.specs.Told.{Told, bad_or}

-- an answer and those after it
abbrev pub answer_then : Option (List ℕ) → List ℕ → List ℕ
answer_then None more = []
answer_then (Some text) more = text ++ more

-- the answers to lines, up to the first line that has none
unfoldable pub answers_to : (List ℕ → Option (List ℕ)) → List (List ℕ) → List ℕ
answers_to answer [] = []
answers_to answer (line ∷ lines) = answer_then (answer line) (answers_to answer lines)

-- the number of the first line that has no answer, where the first line of all has the number n
unfoldable pub bad_line : (List ℕ → Option (List ℕ)) → ℕ → List (List ℕ) → Option ℕ
bad_line answer n [] = None
bad_line answer n (line ∷ lines) = bad_or (answer line) n (bad_line answer (suc n) lines)

abbrev pub Wrote : (List ℕ → Option (List ℕ)) → Result (Unit {0}) LinesFault → List ℕ → Option (List ℕ) → Option (List ℕ) → Type 0
Wrote answer result input old new = Told (answers_to answer (lines_of input)) (bad_line answer 1 (lines_of input)) result old new
