use Rattle.std.specs.Prelude.{◌+◌, ◌*◌, Some}
use Rattle.router_rules.specs.Links.{link_count}
use Rattle.try_net.proofs.with_core_out.Given as goal

abbrev pub ghosts-with_core_in : goal.ghosts-with_core_in
ghosts-with_core_in g a = record { table = a.core_in.blank.table; workers = 2 * link_count a.core_in.config + a.core_in.config.processors + 1; config = Some a.core_in.config }
