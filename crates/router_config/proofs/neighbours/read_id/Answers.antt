use Rattle.std.proofs.Common.{true, false, sym, ◌∙◌}
use Rattle.router_config.specs.Neighbours.{taken}
use Rattle.router_config.proofs.IdLemmas.{id_read}
use Rattle.router_config.proofs.neighbours.read_id.Goals as goal

pub returns-then-is_taken-clause-value : goal.returns-then-is_taken-clause-value
returns-then-is_taken-clause-value c =
    id_read (taken c.args.links.now c.args.siblings.now) c.args.number c.in-Ok.id true c.ranges.number c.in-Ok.ensures c.if-number-eq0.false (sym c.if-is_taken.true ∙ c.is_taken.ensures)

pub returns-clause-value : goal.returns-clause-value
returns-clause-value c =
    id_read (taken c.args.links.now c.args.siblings.now) c.args.number c.in-Ok.id false c.ranges.number c.in-Ok.ensures c.if-number-eq0.false (sym c.if-is_taken.false ∙ c.is_taken.ensures)
