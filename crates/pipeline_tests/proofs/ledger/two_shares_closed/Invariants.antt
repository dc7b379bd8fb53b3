use Rattle.std.specs.Prelude.{None}
use Rattle.pipeline_tests.proofs.ledger.two_shares_closed.Given as goal

abbrev pub ghosts-two_shares : goal.ghosts-two_shares
ghosts-two_shares g a = record { table = a.blank.table; workers = 2; config = None }
