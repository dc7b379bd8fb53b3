use Rattle.std.proofs.Common.{rules}
use Rattle.process_packet.proofs.packet_view.PacketView.is_destination_lawful.Goals as goal

pub returns-else-is_external : goal.returns-else-is_external
returns-else-is_external c = search rules
