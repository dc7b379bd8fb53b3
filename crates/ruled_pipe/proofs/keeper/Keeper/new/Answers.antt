use Rattle.ruled_pipe.proofs.Moves.{begins}
use Rattle.ruled_pipe.proofs.keeper.Keeper.new.Goals as goal

pub ruled-requires-clause-rule : goal.ruled-requires-clause-rule
ruled-requires-clause-rule g c = begins
