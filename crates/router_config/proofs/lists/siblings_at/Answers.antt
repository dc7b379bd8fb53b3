use Rattle.std.proofs.Common.{◌∙◌, Ok, ap, inr, map, sym}
use Rattle.toml.specs.View.{array_view, table_view}
use Rattle.process_packet.specs.Neighbours.{link_id}
use Rattle.router_config.proofs.ListLemmas.{bad_siblings, no_siblings, siblings_there}
use Rattle.router_config.proofs.lists.siblings_at.Goals as goal

pub returns-in-Ok-clause-value : goal.returns-in-Ok-clause-value
returns-in-Ok-clause-value c = rw (← siblings_there (map link_id c.args.links.now) (table_view c.args.table.now) (array_view c.in-Ok.members.now) c.in-Ok.ensures) c.read_siblings.ensures.value

pub returns-in-Missing-clause-value : goal.returns-in-Missing-clause-value
returns-in-Missing-clause-value c = no_siblings (map link_id c.args.links.now) (table_view c.args.table.now) (rw c.in-Missing.is at c.in-Err.ensures) ∙ ap Ok (sym c.new.ensures.items)

pub returns-in_default : goal.returns-in_default
returns-in_default c = record { value = inr (bad_siblings (map link_id c.args.links.now) (table_view c.args.table.now) c.in-Err.fault c.in_default.not-Missing c.in-Err.ensures); few = tt; whole = tt; distinct = tt }
