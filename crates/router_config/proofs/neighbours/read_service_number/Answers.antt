use Rattle.std.proofs.Common.{map, true, false, sym, ◌∙◌}
use Rattle.process_packet.specs.Neighbours.{service_number}
use Rattle.router_config.proofs.IdLemmas.{service_read}
use Rattle.router_config.proofs.neighbours.read_service_number.Goals as goal

pub returns-then-is_served-clause-value : goal.returns-then-is_served-clause-value
returns-then-is_served-clause-value c =
    service_read (map service_number c.args.given.now) c.args.number c.in-Ok.found true c.ranges.number c.in-Ok.ensures c.if-found-gt32767.false (sym c.if-is_served.true ∙ c.is_served.ensures)

pub returns-clause-value : goal.returns-clause-value
returns-clause-value c =
    service_read (map service_number c.args.given.now) c.args.number c.in-Ok.found false c.ranges.number c.in-Ok.ensures c.if-found-gt32767.false (sym c.if-is_served.false ∙ c.is_served.ensures)
