use Rattle.std.proofs.Common.{sym, ◌∙◌}
use Rattle.toml.specs.View.{table_view}
use Rattle.router_config.proofs.NeighborLemmas.{bad_named, none_named, other_named, own_named}
use Rattle.router_config.proofs.neighbours.neighbor_at.Goals as goal

pub returns-then-is_same_as : goal.returns-then-is_same_as
returns-then-is_same_as c = own_named c.args.own c.in-Ok.found (table_view c.args.table.now) c.in-Ok.ensures.value (sym c.is_same_as.ensures ∙ c.if-is_same_as.true)

pub returns-else-is_same_as : goal.returns-else-is_same_as
returns-else-is_same_as c = other_named c.args.own c.in-Ok.found (table_view c.args.table.now) c.in-Ok.ensures.value (sym c.is_same_as.ensures ∙ c.if-is_same_as.false)

pub returns-in-Missing : goal.returns-in-Missing
returns-in-Missing c = none_named c.args.own (table_view c.args.table.now) (rw c.in-Missing.is at c.in-Err.ensures.value)

pub returns-in_default : goal.returns-in_default
returns-in_default c = bad_named c.args.own (table_view c.args.table.now) c.in-Err.fault c.in_default.not-Missing c.in-Err.ensures.value
