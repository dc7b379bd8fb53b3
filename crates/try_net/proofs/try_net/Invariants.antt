use Rattle.std.specs.Prelude.{◌+◌, ◌*◌, Some}
use Rattle.router_rules.specs.Links.{link_count}
use Rattle.try_net.proofs.try_net.Given as goal

abbrev pub ghosts-with_last : goal.ghosts-with_last
ghosts-with_last g a = record { table = a.last.blank.table; workers = 2 * link_count a.last.config + a.last.config.processors + 1; config = Some a.last.config }
