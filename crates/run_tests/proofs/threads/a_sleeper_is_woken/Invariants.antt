use Rattle.std.specs.Prelude.{None}
use Rattle.run_tests.proofs.threads.a_sleeper_is_woken.Given as goal

abbrev pub ghosts-fed : goal.ghosts-fed
ghosts-fed g a = record { table = a.blank.table; workers = 0; config = None }
