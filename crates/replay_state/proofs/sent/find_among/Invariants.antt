use Rattle.std.proofs.Common.{◌≡◌, drop}
use Rattle.order_laws.specs.Item.{is_one}
use Rattle.replay_laws.specs.Place.{in_sent}
use Rattle.replay_state.specs.Sent.{joined}
use Rattle.replay_state.specs.Sent.{first}
use Rattle.replay_state.proofs.sent.find_among.Given as goal

abbrev pub invariant-loop-i : goal.invariant-loop-i
invariant-loop-i l = first (in_sent (is_one l.arrived l.number) (joined (drop l.i l.ways) (drop l.i l.entries))) ≡ first (in_sent (is_one l.arrived l.number) (joined l.ways l.entries))
