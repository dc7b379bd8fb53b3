use Rattle.std.proofs.Common.{ap, ◌∙◌, sym, subst, Bool, true}
use Rattle.ruled_pipe.specs.Producer.{Sender}
use Rattle.run_ends.specs.Shutting.{IsShutting, Shutting, shutting}
use Rattle.run_ends.proofs.ShuttingLemmas.{closed_now, closing_full, closing_there, closing_was}
use Rattle.run_ends.proofs.shutter.Shutter.close.Goals as goal

pub invariant_of-self : goal.invariant_of-self
invariant_of-self g c =
    let is = subst (λ (b : Bool). IsShutting (shutting c.self.inside.producer c.self.inside.used b c.self.inside.ended)) c.if-self.false c.self.invariant in
    subst (λ (s : Sender g.row.T.Denot). IsShutting (shutting s c.self.inside.used true c.self.inside.ended)) (sym c.in-Ok.ensures.step) (closed_now c.self.inside.producer c.self.inside.used c.self.inside.ended is (ap (λ (s : Shutting g.row.T.Denot). s.used) c.self.view_is ∙ c.requires.0) (ap (λ (s : Shutting g.row.T.Denot). s.ended) c.self.view_is ∙ c.requires.1))

pub returns-then-self : goal.returns-then-self
returns-then-self g c = let o = c.self.inside in closing_was o.producer o.used o.closed o.ended c.args.self.now c.self.view_is c.if-self.true

pub returns-in-Ok : goal.returns-in-Ok
returns-in-Ok g c = let o = c.self.inside in closing_there o.producer c.mark.new.self o.used o.closed o.ended c.args.self.now c.self.view_is c.if-self.false c.in-Ok.ensures.step

pub returns-in-Err : goal.returns-in-Err
returns-in-Err g c = let o = c.self.inside in closing_full o.producer c.mark.new.self o.used o.closed o.ended c.args.self.now c.self.view_is c.if-self.false c.in-Err.ensures.step.1
