use Rattle.std.proofs.Common.{arith}
use Rattle.packet_ledger.proofs.Moves.{begins}
use Rattle.packet_ledger.proofs.book.Blank.new.Goals as goal

pub ruled-requires : goal.ruled-requires
ruled-requires c = (omega arith, (omega arith, begins _))
