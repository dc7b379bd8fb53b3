use Rattle.std.proofs.Common.{◌+◌, ◌*◌, arith}
use Rattle.scion_packet.specs.Path.{hop_at}
use Rattle.path_fields.specs.Fields.{hop_field}
use Rattle.path_fields.proofs.ReadingLemmas.{one_more}
use Rattle.path_fields.proofs.reading.hops_at.Goals as goal

pub loop-k-preserved : goal.loop-k-preserved
loop-k-preserved c = record {
  len = omega (arith, c.push.ensures.len, c.loop-k.invariant.len);
  same = rw c.push.ensures.items (one_more hop_field (λ j. hop_at c.args.path.now (c.args.place + 12 * j)) _ _ _ c.loop-k.invariant.same c.read_hop.ensures);
}
