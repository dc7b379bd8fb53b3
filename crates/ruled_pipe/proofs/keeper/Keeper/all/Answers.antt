use Rattle.std.proofs.Common.{◌+◌, List, sym, ◌∙◌, ap, subst}
use Rattle.ruled_pipe.proofs.Ends.{one_more_new}
use Rattle.ruled_pipe.specs.Producer.{Sender, new_sender}
use Rattle.ruled_pipe.specs.Pipe.{Keeping, one_made, AreNew}
use Rattle.ruled_pipe.proofs.keeper.Keeper.all.Goals as goal

pub loop-preserved : goal.loop-preserved
loop-preserved g c =
    let first = c.args.self.now in
    let at = c.loop in
    let made = c.in_ok-end.ensures in
    let P : List (Sender g.row.T.Denot) → Type 0 = λ l. AreNew first.pipe first.capacity first.producers (at.counter + 1) l in (
      made.1 ∙ ap one_made at.invariant.0,
      subst P (sym c.in_ok-push.ensures.items)
          (one_more_new first.pipe first.capacity first.producers at.counter at.ends.items c.in_ok-end.end at.invariant.1 (made.0 ∙ ap (λ (o : Keeping g.row.T.Denot). new_sender o.pipe o.made o.producers o.capacity) at.invariant.0)),
    )
