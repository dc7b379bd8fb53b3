use Rattle.std.proofs.Common.{arith}
use Rattle.replay_laws.specs.Totals.{packets_in_hand}
use Rattle.replay_laws.specs.World.{Empty}
use Rattle.pipe_model.proofs.Sums.{total_more}
use Rattle.pipe_model.proofs.counting.in_hands.Goals as goal

pub loop-seat-preserved : goal.loop-seat-preserved
loop-seat-preserved c =
    let more = total_more packets_in_hand c.args.hands.now c.loop-seat.seat Empty (omega arith) in
    record { count = omega (arith, more, c.loop-seat.invariant.count, c.packets_at-packets.ensures.count); few = omega arith }
