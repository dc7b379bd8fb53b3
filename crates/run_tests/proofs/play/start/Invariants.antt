use Rattle.std.specs.Prelude.{◌+◌, ◌*◌, Some}
use Rattle.router_rules.specs.Links.{link_count}
use Rattle.run_tests.proofs.play.start.Given as goal

abbrev pub ghosts-play : goal.ghosts-play
ghosts-play g a = record { table = a.blank.table; workers = 2 * link_count a.setup.config + a.setup.config.processors + 1; config = Some a.setup.config }
