use Rattle.std.proofs.Common.{rules}
use Rattle.process_packet.proofs.packet_view.PacketView.came_against_construction.Goals as goal

pub returns-then-is_external : goal.returns-then-is_external
returns-then-is_external c = search rules
