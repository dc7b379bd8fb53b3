-- Where a packet changes from one segment of its path to the next.
use Rattle.std.specs.Prelude.{Bool, ◌&&◌}
use Rattle.scion_packet.specs.Path.{PathFields}
use Rattle.scion_packet.specs.Places.{is_followed, is_last_of_segment}

abbrev pub is_switch : PathFields → Bool
is_switch p = is_last_of_segment p.segments p.place && is_followed p.segments p.place
