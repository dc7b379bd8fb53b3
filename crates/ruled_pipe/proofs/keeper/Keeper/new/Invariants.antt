use Rattle.crossbeam_queue.specs.Passes.{ruled_capacity}
use Rattle.ruled_pipe.proofs.keeper.Keeper.new.Given as goal

abbrev pub ghosts-open : goal.ghosts-open
ghosts-open g a = record { capacity = ruled_capacity a.queue.now; producers = a.producers }
