use Rattle.std.proofs.Common.{sym, ap}
use Rattle.process_packet.specs.declared.one_hop_departure.OneHopDeparture.{OneHopDeparture}
use Rattle.process_packet.specs.OneHopTable.{one_hop_decision_of}
use Rattle.process_packet.specs.OneHopView.{sent_so}
use Rattle.process_packet.proofs.one_hop_departure.OneHopDeparture.decision.Goals as goal

pub returns-in-Enters : goal.returns-in-Enters
returns-in-Enters c p = ap (λ (d : OneHopDeparture). one_hop_decision_of (sent_so d p)) (sym c.in-Enters.is)
