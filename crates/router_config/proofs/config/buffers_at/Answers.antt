use Rattle.toml.specs.View.{table_view}
use Rattle.router_config.proofs.ConfigLemmas.{bad_buffers, usual_buffers}
use Rattle.router_config.proofs.config.buffers_at.Goals as goal

pub returns-in-Missing-clause-value : goal.returns-in-Missing-clause-value
returns-in-Missing-clause-value c = usual_buffers (table_view c.args.table.now) (rw c.in-Missing.is at c.in-Err.ensures)

pub returns-in_default : goal.returns-in_default
returns-in_default c = record { value = bad_buffers (table_view c.args.table.now) c.in-Err.fault c.in_default.not-Missing c.in-Err.ensures; some = tt; few = tt }
