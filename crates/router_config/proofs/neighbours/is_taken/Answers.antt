use Rattle.std.proofs.Common.{sym, ◌∙◌}
use Rattle.router_config.proofs.IdLemmas.{not_linked, taken_linked}
use Rattle.router_config.proofs.neighbours.is_taken.Goals as goal

pub returns-then-is_linked : goal.returns-then-is_linked
returns-then-is_linked c = taken_linked c.args.links.now c.args.siblings.now c.args.id _ c.is_linked.ensures c.if-is_linked.true

pub returns-else-is_linked : goal.returns-else-is_linked
returns-else-is_linked c = c.is_owned.ensures ∙ sym (not_linked c.args.links.now c.args.siblings.now c.args.id (sym c.is_linked.ensures ∙ c.if-is_linked.false))
