use Rattle.std.proofs.Common.{rules}
use Rattle.worker_parts.proofs.packet.Packet.into_egress_packet.Goals as goal

pub returns : goal.returns
returns g c = search rules
