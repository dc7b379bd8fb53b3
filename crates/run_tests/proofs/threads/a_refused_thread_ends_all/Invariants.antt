use Rattle.std.specs.Prelude.{None}
use Rattle.run_tests.proofs.threads.a_refused_thread_ends_all.Given as goal

abbrev pub ghosts-four_teams : goal.ghosts-four_teams
ghosts-four_teams g a = record { table = a.blank.table; workers = 6; config = None }
