use Rattle.scion_packet.specs.Path.{hop_text}
use Rattle.path_fields.specs.Fields.{hop_field}
use Rattle.path_fields.proofs.WritingLemmas.{hop_len, one_more_written}
use Rattle.path_fields.proofs.writing.write_hops.Goals as goal

pub loop-hop-preserved : goal.loop-hop-preserved
loop-hop-preserved c = one_more_written 12 (λ h. hop_text (hop_field h)) _ _ _ _ _ c.loop-hop.hop-index c.args.hops.now c.hop-item.result hop_len c.loop-hop-test.true c.hop-item.is c.loop-hop.invariant c.write_hop.ensures
