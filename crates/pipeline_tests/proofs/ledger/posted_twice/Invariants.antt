use Rattle.std.specs.Prelude.{None}
use Rattle.pipeline_tests.proofs.ledger.posted_twice.Given as goal

abbrev pub ghosts-post_twice : goal.ghosts-post_twice
ghosts-post_twice g a = record { table = a.blank.table; workers = 1; config = None }
