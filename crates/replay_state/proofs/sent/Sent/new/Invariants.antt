use Rattle.std.proofs.Common.{◌≡◌, [], replicate}
use Rattle.replay_state.proofs.sent.Sent.new.Given as goal

abbrev pub invariant-loop-i : goal.invariant-loop-i
invariant-loop-i l = l.links.items ≡ replicate l.i []
