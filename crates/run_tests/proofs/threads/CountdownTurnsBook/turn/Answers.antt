use Rattle.std.proofs.Common.{arith}
use Rattle.run_tests.proofs.threads.CountdownTurnsBook.turn.Goals as goal

pub received-requires : goal.received-requires
received-requires g c = let room = c.requires 0 in omega arith
