use Rattle.std.proofs.Common.{subst, arith}
use Rattle.std.specs.Prelude.{MatchBool}
use Rattle.packet_ledger.specs.Amounts.{AtMost}
use Rattle.packet_ledger.proofs.Counting.{may_raise, match_as}
use Rattle.packet_ledger.proofs.share.Share.has_room_by_count.Goals as goal

pub returns-clause-room : goal.returns-clause-room
returns-clause-room g c =
    rw (← c.self.view_is)
    (match_as c.at_most.result (λ most i. let m = most i in omega arith) (λ over room. over (λ i. let r = room i in omega arith)) c.at_most.ensures)

pub returns-clause-each : goal.returns-clause-each
returns-clause-each g c =
    λ yes'.
    rw (← c.self.view_is) (may_raise c.self.inside.counts (subst (λ b. MatchBool b (AtMost 1267650600228229401496703205375 c.self.inside.counts) (AtMost 1267650600228229401496703205375 c.self.inside.counts → ⊥)) yes' c.at_most.ensures))
