use Rattle.std.proofs.Common.{◌≡◌, true}
use Rattle.scion_packet.specs.Path.{no_peering}
use Rattle.path_fields.proofs.meta.no_peering.Given as goal

abbrev pub invariant-loop-k : goal.invariant-loop-k
invariant-loop-k l = no_peering l.k l.path ≡ true
