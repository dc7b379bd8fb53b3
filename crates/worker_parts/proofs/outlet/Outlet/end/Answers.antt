use Rattle.std.proofs.Common.{sym, subst, Bool, true}
use Rattle.ruled_pipe.specs.Producer.{Sender}
use Rattle.worker_parts.specs.Outlet.{IsMarked}
use Rattle.worker_parts.proofs.Marks.{marked_end}
use Rattle.worker_parts.proofs.outlet.Outlet.end.Goals as goal

pub invariant_of-self : goal.invariant_of-self
invariant_of-self g c =
    let is = subst (λ (b : Bool). IsMarked c.self.inside.producer b) c.if-self.false c.self.invariant in
    subst (λ (s : Sender g.row.T.Denot). IsMarked s true) (sym c.in-Ok.ensures.step) (marked_end c.self.inside.producer is)
