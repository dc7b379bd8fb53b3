-- What an engine that reads lines has written, where its bytes are known.
use Rattle.std.specs.Prelude.{◌≡◌, ℕ, ⊤, List, Option, Some, None, Result, Ok, Err, take}
use Rattle.std.specs.Io.KnownBytes.{Appends}
use Rattle.cli_io.specs.declared.fault.LinesFault.{LinesFault}
use Rattle.cli_io.specs.declared.fault.LinesFault.TheVariants as faults

-- a fault that isn't a line's
abbrev pub IsCut : LinesFault → Type 0
IsCut (faults.Line n) = ⊥
IsCut faults.Input = ⊤
IsCut faults.Output = ⊤
IsCut faults.Memory = ⊤

-- The text was written whole, and there was no bad line, or it ends at the bad line of the fault; after any other fault a
-- beginning of it was written.
abbrev pub Told : List ℕ → Option ℕ → Result (Unit {0}) LinesFault → Option (List ℕ) → Option (List ℕ) → Type 0
Told text bad (Ok done) old new = Appends old new text × (bad ≡ None)
Told text bad (Err (faults.Line n)) old new = Appends old new text × (bad ≡ Some n)
Told text bad (Err fault) old new = (k : ℕ) × Appends old new (take k text)

-- the number of a line that is none of the format, where it is the first such
abbrev pub bad_or : {A : Type 0} → Option A → ℕ → Option ℕ → Option ℕ
bad_or None n later = Some n
bad_or (Some found) n later = later
