use Rattle.std.specs.Prelude.{None}
use Rattle.pipeline_tests.proofs.ledger.nobody_counts.Given as goal

abbrev pub ghosts-no_share : goal.ghosts-no_share
ghosts-no_share g a = record { table = a.blank.table; workers = 0; config = None }
