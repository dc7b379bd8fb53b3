use Rattle.std.specs.Prelude.{None}
use Rattle.pipeline_tests.proofs.ledger.two_threads_closed.Given as goal

abbrev pub ghosts-two_threads : goal.ghosts-two_threads
ghosts-two_threads g a = record { table = a.blank.table; workers = 2; config = None }
