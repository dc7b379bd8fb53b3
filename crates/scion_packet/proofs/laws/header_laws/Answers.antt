use Rattle.scion_packet.proofs.HeaderBack.{header_only, header_passes_back}
use Rattle.scion_packet.proofs.HeaderSpelled.{header_spelled, header_type}
use Rattle.scion_packet.proofs.laws.header_laws.Goals as goal

pub returns : goal.returns
returns c = record { spelled = header_spelled; of_type = header_type; passes = header_passes_back; only = header_only }
