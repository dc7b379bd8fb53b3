use Rattle.std.proofs.lemmas.Grind.{common_steps}
use Rattle.std.proofs.Common.{arith}
use Rattle.scion_header.specs.Header.{header_fields}
use Rattle.scion_header.proofs.WritingLemmas.{common_written}
use Rattle.scion_header.proofs.writing.write_common.Goals as goal

pub returns : goal.returns
returns c =
    common_written (record (header_fields c.args.header.now) { path_type = c.args.path_type }) _ _ _ _ _ _ _ _ _ _ (grind (arith, common_steps)) (grind (arith, common_steps))
    c.put_u32.ensures c.put_u8.ensures c.put_u8-2.ensures c.put_u16.ensures c.put_u8-3.ensures c.put_u8-4.ensures c.put_u16-2.ensures
