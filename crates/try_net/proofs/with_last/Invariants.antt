use Rattle.std.specs.Prelude.{◌+◌, ◌*◌, Some}
use Rattle.router_rules.specs.Links.{link_count}
use Rattle.try_net.proofs.with_last.Given as goal

abbrev pub ghosts-with_core_out : goal.ghosts-with_core_out
ghosts-with_core_out g a = record { table = a.core_out.blank.table; workers = 2 * link_count a.core_out.config + a.core_out.config.processors + 1; config = Some a.core_out.config }
