use Rattle.std.proofs.Common.{arith}
use Rattle.packet_ledger.proofs.Counting.{may_raise}
use Rattle.packet_ledger.proofs.share.Share.has_room.Goals as goal

pub returns-then-self-gt0-clause-each : goal.returns-then-self-gt0-clause-each
returns-then-self-gt0-clause-each g c =
    λ yes'. rw (← c.self.view_is) (may_raise c.self.inside.counts (λ i. let l = c.self.invariant.5 i in let some = c.if-self-gt0.true in omega arith))
