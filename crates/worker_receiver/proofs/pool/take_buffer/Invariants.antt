use Rattle.std.proofs.Common.{◌≡◌, ℕ, List}
use Rattle.ruled_pipe.specs.declared.entry.Entry.{Entry}
use Rattle.worker_receiver.specs.Pool.{AreMarks, passed}
use Rattle.worker_receiver.proofs.pool.take_buffer.Given as goal

abbrev pub invariant-loop : goal.invariant-loop
invariant-loop g l = (marks : List (Entry (List ℕ))) × AreMarks marks × (l.free ≡ passed l.initial.free marks)
