use Rattle.std.proofs.Common.{◌≡◌, replicate}
use Rattle.replay_laws.specs.World.{Empty}
use Rattle.replay_state.proofs.hands.Hands.new.Given as goal

abbrev pub invariant-loop-i : goal.invariant-loop-i
invariant-loop-i l = l.seats.items ≡ replicate l.i Empty
