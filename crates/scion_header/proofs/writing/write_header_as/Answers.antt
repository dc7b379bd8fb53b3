use Rattle.scion_header.specs.Header.{header_fields}
use Rattle.scion_header.proofs.WritingLemmas.{all_written}
use Rattle.scion_header.proofs.writing.write_header_as.Goals as goal

pub returns-clause-written : goal.returns-clause-written
returns-clause-written c =
    all_written (record (header_fields c.args.header.now) { path_type = c.args.path_type }) _ _ _ _ _ _ _ _ c.as_slice-destination.ensures.text c.as_slice-source.ensures.text
    c.write_common.ensures c.write_domain.ensures c.write_domain-2.ensures c.put.ensures c.put-2.ensures
