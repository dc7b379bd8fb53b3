-- Lines that are text.
use Rattle.std.specs.Prelude.{ℕ, if◌then◌else◌, List, Option, Some, None}
use Rattle.std.specs.Str.{is_utf8}

-- a line as text; none where it is no UTF-8
abbrev pub as_text : List ℕ → Option (List ℕ)
as_text line = if is_utf8 line then Some line else None
