use Rattle.path_fields.proofs.ReadingLemmas.{same_fields}
use Rattle.path_fields.proofs.reading.read_path.Goals as goal

pub returns-clause-path : goal.returns-clause-path
returns-clause-path c =
    let meta = c.in_ok-meta.meta in
    let read = c.in_ok-meta.ensures in
    same_fields c.args.bytes.now meta.lengths meta.reserved meta.current_info meta.current_hop c.segment_count.result c.hops_place.result c.hop_count.result
    c.infos_at-infos.result.items c.hops_at-hops.result.items read.reserved read.info read.hop read.lengths
    c.segment_count.ensures.count c.hops_place.ensures c.hop_count.ensures c.infos_at-infos.ensures.fields c.hops_at-hops.ensures.fields
