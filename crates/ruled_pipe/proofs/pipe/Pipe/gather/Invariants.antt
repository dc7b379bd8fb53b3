use Rattle.std.proofs.Common.{◌≡◌, ◌++◌, length}
use Rattle.std.specs.Vec.Iter.{into_iter_items, into_iter_len}
use Rattle.ruled_pipe.proofs.pipe.Pipe.gather.Given as goal

abbrev pub invariant-loop-producer : goal.invariant-loop-producer
invariant-loop-producer g l =
    (l.keeper ≡ record l.initial.keeper { senders = l.yielded })
    × (l.yielded ++ into_iter_items l.producer-iterator ≡ into_iter_items l.initial.producer-iterator)
    × (into_iter_len l.producer-iterator ≡ length (into_iter_items l.producer-iterator))
