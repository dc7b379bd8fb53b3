use Rattle.std.specs.Prelude.{None}
use Rattle.pipeline_tests.proofs.ledger.looks_show_what_was_posted.Given as goal

abbrev pub ghosts-looks : goal.ghosts-looks
ghosts-looks g a = record { table = a.blank.table; workers = 2; config = None }
