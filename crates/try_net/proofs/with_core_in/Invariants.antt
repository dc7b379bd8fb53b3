use Rattle.std.specs.Prelude.{◌+◌, ◌*◌, Some}
use Rattle.router_rules.specs.Links.{link_count}
use Rattle.try_net.proofs.with_core_in.Given as goal

abbrev pub ghosts-with_first : goal.ghosts-with_first
ghosts-with_first g a = record { table = a.first.blank.table; workers = 2 * link_count a.first.config + a.first.config.processors + 1; config = Some a.first.config }
