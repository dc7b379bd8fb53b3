use Rattle.std.proofs.Common.{◌≡◌, ◌≤◌, take}
use Rattle.order_laws.specs.Counts.{total}
use Rattle.replay_laws.specs.Totals.{packets_in_hand}
use Rattle.pipe_model.proofs.counting.in_hands.Given as goal

abbrev pub invariant-loop-seat : goal.invariant-loop-seat
invariant-loop-seat l = record {
  count : l.packets ≡ total packets_in_hand (take l.seat l.hands);
  few : l.packets ≤ l.seat;
}
