-- Totals, cause by cause.
use Rattle.std.specs.Prelude.{ℕ, ◌-◌, slice_index}
use Rattle.process_packet.specs.declared.cause.Cause.{Cause}
use Rattle.process_packet.specs.declared.totals.Totals.{Totals}
use Rattle.process_packet.specs.Cause.{number_of}

-- the first cause stands first
abbrev pub dropped_for : Totals → Cause → ℕ
dropped_for totals cause = slice_index totals.dropped (number_of cause - 1)
