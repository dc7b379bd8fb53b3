use Rattle.std.specs.Prelude.{◌+◌, ◌*◌, Some}
use Rattle.router_rules.specs.Links.{link_count}
use Rattle.udp_router.proofs.run.run_router.Given as goal

abbrev pub ghosts-start_and_lead : goal.ghosts-start_and_lead
ghosts-start_and_lead g a = record { table = a.blank.table; workers = 2 * link_count a.config + a.config.processors + 1; config = Some a.config }
