-- What a worker's turn answers at its end.
use Rattle.std.specs.Prelude.{Bool, if◌then◌else◌}
use Rattle.worker_parts.specs.declared.turn.Turn.{Turn}
use Rattle.worker_parts.specs.declared.turn.Turn.TheVariants.{Quiet, Ended}

-- after the end of a worker: it has ended once all its marks are there
abbrev pub ending : Bool → Turn
ending all = if all then Ended else Quiet
