use Rattle.std.proofs.Common.{take}
use Rattle.field_rows.specs.Row.{rows}
use Rattle.scion_packet.specs.Path.{info_table}
use Rattle.path_fields.specs.Fields.{info_field}
use Rattle.path_fields.proofs.WritingLemmas.{FieldsWritten}
use Rattle.path_fields.proofs.writing.write_infos.Given as goal

abbrev pub invariant-loop-info : goal.invariant-loop-info
invariant-loop-info l = FieldsWritten 8 (λ i. rows (info_table (info_field i))) l.initial.out l.out l.at l.place (take l.info-index l.infos)
