use Rattle.worker_receiver.proofs.ReceivingLemmas.{keeps_posted}
use Rattle.worker_receiver.proofs.receiver.ReceiverTurnsBook.post.Goals as goal

pub invariant_of-self : goal.invariant_of-self
invariant_of-self g c = keeps_posted (g.S.Source.told c.self.inside.source) c.self.inside.number c.self.inside.ended c.self.inside.intake.side c.post.new.self.side c.post.ensures.share c.post.ensures.same c.self.invariant
