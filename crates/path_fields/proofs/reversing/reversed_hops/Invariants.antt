use Rattle.std.proofs.Common.{◌≡◌, ◌+◌, length, map, reverse, drop}
use Rattle.scion_packet.specs.Reversed.{cleared_hop}
use Rattle.path_fields.specs.Fields.{hop_field}
use Rattle.path_fields.proofs.reversing.reversed_hops.Given as goal

abbrev pub invariant-loop-k : goal.invariant-loop-k
invariant-loop-k l = record { len : length l.back.items + l.k ≡ length l.hops; same : map hop_field l.back.items ≡ map cleared_hop (reverse (map hop_field (drop l.k l.hops))) }
