-- A segment whose identifier is set, and nothing else changed.
use Rattle.std.specs.Prelude.{ℕ, zero, suc, List, [], ◌∷◌}
use Rattle.scion_packet.specs.Path.{Segment}

abbrev pub with_segment_id : List Segment → ℕ → ℕ → List Segment
with_segment_id [] k id = []
with_segment_id (s ∷ ss) zero id = record s { info = record s.info { segment_id = id } } ∷ ss
with_segment_id (s ∷ ss) (suc k) id = s ∷ with_segment_id ss k id
