use Rattle.std.proofs.Common.{◌≡◌, length}
use Rattle.run_pipes.proofs.waking.so_many.Given as goal

abbrev pub invariant-loop-k : goal.invariant-loop-k
invariant-loop-k l = length l.events.items ≡ l.k
