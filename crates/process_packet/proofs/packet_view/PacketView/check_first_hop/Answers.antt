use Rattle.std.proofs.Common.{rules}
use Rattle.process_packet.proofs.packet_view.PacketView.check_first_hop.Goals as goal

pub returns : goal.returns
returns c = search rules
