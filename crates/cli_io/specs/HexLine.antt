-- The bytes of a line of hex.
use Rattle.std.specs.Prelude.{ℕ, List, Option, Some, None, Result, Ok, Err}
use Rattle.hex.specs.Hex.{decode_of}

abbrev pub decoded : {E : Type 0} → Result (List ℕ) E → Option (List ℕ)
decoded (Ok bytes) = Some bytes
decoded (Err e) = None

-- the bytes that a line of hex has, none where it is no hex
abbrev pub bytes_of : List ℕ → Option (List ℕ)
bytes_of line = decoded (decode_of line)
