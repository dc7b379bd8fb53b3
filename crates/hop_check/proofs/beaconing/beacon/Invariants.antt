use Rattle.std.proofs.Common.{◌≡◌, map}
use Rattle.scion_packet.specs.Path.{InfoField}
use Rattle.hop_check.specs.Beaconing.{beta_at, without_mac}
use Rattle.hop_check.proofs.BeaconingLemmas.{AreMadeBelow}
use Rattle.path_fields.specs.Fields.{hop_field}
use Rattle.hop_check.proofs.beaconing.beacon.Given as goal

abbrev pub invariant-loop-k : goal.invariant-loop-k
invariant-loop-k l = record {
  made : (info : InfoField) → info.timestamp ≡ l.timestamp → AreMadeBelow l.k l.keys l.beta info (map hop_field l.hops);
  chained : l.chained ≡ beta_at l.beta (map hop_field l.hops) l.k;
  others : map without_mac l.hops ≡ map without_mac l.fn.hops;
}
