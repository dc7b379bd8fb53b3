use Rattle.std.proofs.Common.{inr}
use Rattle.toml.specs.View.{array_view, table_view}
use Rattle.router_config.proofs.ListLemmas.{links_there, no_links_there}
use Rattle.router_config.proofs.lists.links_at.Goals as goal

pub returns-in-Ok-clause-value : goal.returns-in-Ok-clause-value
returns-in-Ok-clause-value c = rw (← links_there c.args.version c.args.own (table_view c.args.table.now) (array_view c.in-Ok.members.now) c.in-Ok.ensures) c.read_links.ensures.value

pub returns-in-Err-clause-value : goal.returns-in-Err-clause-value
returns-in-Err-clause-value c = inr (no_links_there c.args.version c.args.own (table_view c.args.table.now) c.in-Err.fault c.in-Err.ensures)
