use Rattle.std.proofs.Common.{rules}
use Rattle.process_packet.proofs.packet_view.PacketView.unknown_egress.Goals as goal

pub returns-after-self-clause-says : goal.returns-after-self-clause-says
returns-after-self-clause-says c = search rules
