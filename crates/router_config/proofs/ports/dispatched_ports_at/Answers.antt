use Rattle.std.proofs.Common.{◌∙◌}
use Rattle.toml.specs.View.{array_view, table_view}
use Rattle.router_config.proofs.PortLemmas.{no_ports, other_ports, ports_there}
use Rattle.router_config.proofs.ports.dispatched_ports_at.Goals as goal

pub returns-in-Ok-clause-value : goal.returns-in-Ok-clause-value
returns-in-Ok-clause-value c = c.read_ports.ensures.value ∙ ports_there (table_view c.args.table.now) (array_view c.in-Ok.members.now) c.in-Ok.ensures

pub returns-in-Missing-clause-value : goal.returns-in-Missing-clause-value
returns-in-Missing-clause-value c = no_ports (table_view c.args.table.now) (rw c.in-Missing.is at c.in-Err.ensures)

pub returns-in_default : goal.returns-in_default
returns-in_default c = record { value = other_ports (table_view c.args.table.now) c.in-Err.fault c.in_default.not-Missing c.in-Err.ensures; whole = tt }
