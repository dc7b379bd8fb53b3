use Rattle.std.proofs.Common.{MatchBool, subst}
use Rattle.packet_ledger.specs.Share.{HasRoom}
use Rattle.worker_receiver.specs.Intake.{Taking}
use Rattle.worker_receiver.proofs.intake.Intake.has_room.Goals as goal

pub returns : goal.returns
returns g c = subst (λ (t : Taking). MatchBool c.has_room.result (HasRoom t.side.share.counts) (HasRoom t.side.share.counts → ⊥)) c.self.view_is c.has_room.ensures.room
