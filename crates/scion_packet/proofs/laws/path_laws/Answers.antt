use Rattle.scion_packet.proofs.PathBack.{path_only, path_passes}
use Rattle.scion_packet.proofs.PathSpelled.{path_spelled}
use Rattle.scion_packet.proofs.laws.path_laws.Goals as goal

pub returns : goal.returns
returns c = record { spelled = path_spelled; passes = path_passes; only = path_only }
