use Rattle.std.proofs.Common.{rules}
use Rattle.process_packet.proofs.packet_view.PacketView.is_pair_lawful.Goals as goal

pub returns : goal.returns
returns c = search rules
