use Rattle.std.proofs.Common.{◌≡◌, ◌+◌, ◌*◌, length, map}
use Rattle.std.specs.List.{range_with_len}
use Rattle.scion_packet.specs.Path.{hop_at}
use Rattle.path_fields.specs.Fields.{hop_field}
use Rattle.path_fields.proofs.reading.hops_at.Given as goal

abbrev pub invariant-loop-k : goal.invariant-loop-k
invariant-loop-k l = record { len : length l.hops.items ≡ l.k; same : map hop_field l.hops.items ≡ map (λ j. hop_at l.path (l.place + 12 * j)) (range_with_len 0 l.k) }
