use Rattle.std.proofs.Common.{option_map, ◌∙◌}
use Rattle.toml.specs.View.{table_view}
use Rattle.router_config.specs.Neighbours.{domain_numbers}
use Rattle.router_config.proofs.NeighborLemmas.{bad_bfd, bfd_there, no_bfd}
use Rattle.router_config.proofs.neighbours.bfd_at.Goals as goal

pub returns-in-Ok : goal.returns-in-Ok
returns-in-Ok c = c.read_bfd.ensures ∙ bfd_there (option_map domain_numbers c.args.neighbor) (table_view c.args.table.now) c.in-Ok.asked c.in-Ok.ensures

pub returns-in-Missing : goal.returns-in-Missing
returns-in-Missing c = no_bfd (option_map domain_numbers c.args.neighbor) (table_view c.args.table.now) (rw c.in-Missing.is at c.in-Err.ensures)

pub returns-in_default : goal.returns-in_default
returns-in_default c = bad_bfd (option_map domain_numbers c.args.neighbor) (table_view c.args.table.now) c.in-Err.fault c.in_default.not-Missing c.in-Err.ensures
