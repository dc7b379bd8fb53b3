use Rattle.std.proofs.Common.{◌≡◌, ◌+◌, length, map, reverse, drop}
use Rattle.scion_packet.specs.Reversed.{reversed_info}
use Rattle.path_fields.specs.Fields.{info_field}
use Rattle.path_fields.proofs.reversing.reversed_infos.Given as goal

abbrev pub invariant-loop-k : goal.invariant-loop-k
invariant-loop-k l = record { len : length l.back.items + l.k ≡ length l.infos; same : map info_field l.back.items ≡ map reversed_info (reverse (map info_field (drop l.k l.infos))) }
