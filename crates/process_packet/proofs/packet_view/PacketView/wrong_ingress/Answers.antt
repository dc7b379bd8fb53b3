use Rattle.std.proofs.Common.{rules}
use Rattle.process_packet.proofs.packet_view.PacketView.wrong_ingress.Goals as goal

pub returns-then-ingress-self : goal.returns-then-ingress-self
returns-then-ingress-self c = search rules
