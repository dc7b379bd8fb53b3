use Rattle.std.proofs.Common.{sym}
use Rattle.scion_packet.specs.Header.{scion_path}
use Rattle.scion_header.proofs.ReadingLemmas.{same_header}
use Rattle.scion_header.proofs.reading.header_at.Goals as goal

pub returns : goal.returns
returns c =
    same_header c.args.bytes.now c.traffic_class.result c.u32_at.result c.u16_at.result scion_path c.u16_at-2.result c.source_host.result _ _
    c.traffic_class.ensures c.u32_at.ensures c.u16_at.ensures (sym c.requires.path_type) c.u16_at-2.ensures c.address_at.ensures.address c.address_at-2.ensures.address c.source_host.ensures
