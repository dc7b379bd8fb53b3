use Rattle.std.proofs.Common.{◌≡◌, Bool, Some, sym, ap, ◌∙◌, if◌then◌else◌}
use Rattle.host_ports.specs.Port.{destination_port}
use Rattle.process_packet.specs.HostPort.{port_or}
use Rattle.process_packet.proofs.host_port.port_or.Goals as goal

pub returns-then-has_in_range : goal.returns-then-has_in_range
returns-then-has_in_range c =
    let port = c.in-Some.port in
    let other = c.args.dispatcher in
    let named : destination_port c.args.next_header c.args.payload.now ≡ Some port = sym c.destination_port.ensures ∙ c.in-Some.is in
    sym (ap (port_or c.args.range other) named ∙ ap (λ (b : Bool). if b then port else other) (sym c.has_in_range.ensures ∙ c.if-has_in_range.true))

pub returns-else-has_in_range : goal.returns-else-has_in_range
returns-else-has_in_range c =
    let port = c.in-Some.port in
    let other = c.args.dispatcher in
    let named : destination_port c.args.next_header c.args.payload.now ≡ Some port = sym c.destination_port.ensures ∙ c.in-Some.is in
    sym (ap (port_or c.args.range other) named ∙ ap (λ (b : Bool). if b then port else other) (sym c.has_in_range.ensures ∙ c.if-has_in_range.false))

pub returns-in-None : goal.returns-in-None
returns-in-None c = sym (ap (port_or c.args.range c.args.dispatcher) (sym c.destination_port.ensures ∙ c.in-None.is))
