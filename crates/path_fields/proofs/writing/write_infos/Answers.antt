use Rattle.std.proofs.Common.{refl}
use Rattle.field_rows.specs.Row.{rows}
use Rattle.scion_packet.specs.Path.{info_table}
use Rattle.path_fields.specs.Fields.{info_field}
use Rattle.path_fields.proofs.WritingLemmas.{one_more_written}
use Rattle.path_fields.proofs.writing.write_infos.Goals as goal

pub loop-info-preserved : goal.loop-info-preserved
loop-info-preserved c = one_more_written 8 (λ i. rows (info_table (info_field i))) _ _ _ _ _ c.loop-info.info-index c.args.infos.now c.info-item.result (λ i. refl) c.loop-info-test.true c.info-item.is c.loop-info.invariant c.write_info.ensures
