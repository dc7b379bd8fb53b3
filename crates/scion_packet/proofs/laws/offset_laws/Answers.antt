use Rattle.scion_packet.proofs.Offsets.{fields_stand}
use Rattle.scion_packet.proofs.laws.offset_laws.Goals as goal

pub returns : goal.returns
returns c = fields_stand
