use Rattle.std.proofs.Common.{◌≡◌, length, map}
use Rattle.std.specs.List.{range_with_len}
use Rattle.scion_packet.specs.Lengths.{info_place}
use Rattle.scion_packet.specs.Path.{info_at}
use Rattle.path_fields.specs.Fields.{info_field}
use Rattle.path_fields.proofs.reading.infos_at.Given as goal

abbrev pub invariant-loop-k : goal.invariant-loop-k
invariant-loop-k l = record { len : length l.infos.items ≡ l.k; same : map info_field l.infos.items ≡ map (λ j. info_at l.path (info_place j)) (range_with_len 0 l.k) }
