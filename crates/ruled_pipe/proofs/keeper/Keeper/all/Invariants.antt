use Rattle.std.proofs.Common.{◌≡◌}
use Rattle.ruled_pipe.specs.Pipe.{AreNew}
use Rattle.ruled_pipe.proofs.keeper.Keeper.all.Given as goal

abbrev pub invariant-loop : goal.invariant-loop
invariant-loop g l =
    (l.self ≡ record l.initial.self { made = l.counter })
    × AreNew l.initial.self.pipe l.initial.self.capacity l.initial.self.producers l.counter l.ends.items
