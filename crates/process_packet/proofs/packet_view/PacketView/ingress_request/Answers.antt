use Rattle.std.proofs.Common.{rules}
use Rattle.process_packet.proofs.packet_view.PacketView.ingress_request.Goals as goal

pub returns-then-carries_request : goal.returns-then-carries_request
returns-then-carries_request c = search rules

pub returns : goal.returns
returns c = search rules
