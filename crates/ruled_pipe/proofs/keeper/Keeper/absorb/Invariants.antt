use Rattle.ruled_pipe.proofs.keeper.Keeper.absorb.Given as goal

abbrev pub ghosts-leave : goal.ghosts-leave
ghosts-leave g a = record { added = a.self.refusals }
