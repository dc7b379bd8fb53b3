use Rattle.std.proofs.Common.{◌≡◌, ◌++◌, replicate}
use Rattle.replay_laws.specs.Pipe.{empty_pipe}
use Rattle.replay_state.proofs.pipes.Pipes.new.Given as goal

abbrev pub invariant-loop-i : goal.invariant-loop-i
invariant-loop-i l = l.items.items ≡ l.fn.sources.items ++ replicate l.i (empty_pipe l.capacity)
