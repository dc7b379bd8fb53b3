use Rattle.std.proofs.Common.{◌+◌, ◌*◌, ap}
use Rattle.std.specs.List.{flat_map}
use Rattle.field_rows.specs.Row.{rows}
use Rattle.scion_packet.specs.Path.{hop_text, info_table}
use Rattle.path_fields.specs.Fields.{hop_field, info_field}
use Rattle.path_fields.proofs.WritingLemmas.{path_written}
use Rattle.path_fields.proofs.writing.write_path.Goals as goal

pub returns-clause-written : goal.returns-clause-written
returns-clause-written c =
    path_written c.args.path.now c.args.out.now c.write_meta.new.out c.write_infos.new.out c.write_hops.new.out _ _ _
    c.write_meta.ensures c.write_infos.ensures (ap (flat_map (λ i. rows (info_table (info_field i)))) c.as_slice.ensures.value)
    c.write_hops.ensures (ap (flat_map (λ h. hop_text (hop_field h))) c.as_slice-2.ensures.value) (ap (λ n. 4 + 8 * n) c.segment_count.ensures.count)
