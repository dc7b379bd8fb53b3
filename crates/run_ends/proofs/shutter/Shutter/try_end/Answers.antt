use Rattle.std.proofs.Common.{ap, ◌∙◌, sym, subst, true}
use Rattle.ruled_pipe.specs.Producer.{Sender}
use Rattle.run_ends.specs.Shutting.{IsShutting, Shutting, shutting}
use Rattle.run_ends.proofs.ShuttingLemmas.{ended_now, still_full}
use Rattle.run_ends.proofs.shutter.Shutter.try_end.Goals as goal

pub invariant_of-self : goal.invariant_of-self
invariant_of-self g c =
    let o = c.self.inside in
    subst (λ (s : Sender g.row.T.Denot). IsShutting (shutting s o.used o.closed true)) (sym c.in-Ok.ensures.step) (ended_now o.producer o.used o.closed o.ended c.self.invariant (ap (λ (s : Shutting g.row.T.Denot). s.used) c.self.view_is ∙ c.requires.0) (ap (λ (s : Shutting g.row.T.Denot). s.ended) c.self.view_is ∙ c.requires.1))

pub returns-in-Err : goal.returns-in-Err
returns-in-Err g c =
    let o = c.self.inside in
    still_full o.producer c.mark.new.self _ o.used o.closed o.ended c.args.self.now c.self.view_is (ap (λ (s : Shutting g.row.T.Denot). s.ended) c.self.view_is ∙ c.requires.1) c.in-Err.ensures.step.1
