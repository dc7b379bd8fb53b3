use Rattle.std.proofs.Common.{sym, ap, ◌∙◌}
use Rattle.process_packet.specs.declared.one_hop_departure.OneHopDeparture.{OneHopDeparture}
use Rattle.scion_packet.specs.OneHop.{one_hop_text}
use Rattle.process_packet.specs.OneHopView.{left_path}
use Rattle.process_packet.proofs.one_hop_departure.OneHopDeparture.write.Goals as goal

pub returns-in-Enters : goal.returns-in-Enters
returns-in-Enters c p lawful text =
    c.set_second_hop.ensures.changed p lawful text ∙ ap (λ (d : OneHopDeparture). one_hop_text (left_path d p)) (sym c.in-Enters.is)
