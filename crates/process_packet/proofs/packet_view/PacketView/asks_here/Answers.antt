use Rattle.std.proofs.Common.{rules}
use Rattle.process_packet.proofs.packet_view.PacketView.asks_here.Goals as goal

pub returns-else-is_own : goal.returns-else-is_own
returns-else-is_own c = search rules
