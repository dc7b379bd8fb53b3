use Rattle.std.proofs.Common.{arith}
use Rattle.scion_packet.specs.Lengths.{info_place}
use Rattle.scion_packet.specs.Path.{info_at}
use Rattle.path_fields.specs.Fields.{info_field}
use Rattle.path_fields.proofs.ReadingLemmas.{one_more}
use Rattle.path_fields.proofs.reading.infos_at.Goals as goal

pub loop-k-preserved : goal.loop-k-preserved
loop-k-preserved c = record {
  len = omega (arith, c.push.ensures.len, c.loop-k.invariant.len);
  same = rw c.push.ensures.items (one_more info_field (λ j. info_at c.args.path.now (info_place j)) _ _ _ c.loop-k.invariant.same c.read_info.ensures);
}
