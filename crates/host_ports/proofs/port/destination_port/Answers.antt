use Rattle.host_ports.proofs.FoundLemmas.{found_scmp, found_udp}
use Rattle.host_ports.proofs.port.destination_port.Goals as goal

pub returns-then-place-eq-UDP : goal.returns-then-place-eq-UDP
returns-then-place-eq-UDP c =
    found_udp c.args.next_header c.args.bytes.now c.in_ok-place.place.protocol c.in_ok-place.place.at c.port_at.result c.in_ok-place.ensures.layer c.if-place-eq-UDP.true c.port_at.ensures

pub returns-then-place : goal.returns-then-place
returns-then-place c =
    found_scmp c.args.next_header c.args.bytes.now c.in_ok-place.place.protocol c.in_ok-place.place.at c.message_port.result c.in_ok-place.ensures.layer c.if-place.true c.message_port.ensures
