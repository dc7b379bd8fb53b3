use Rattle.std.proofs.Common.{◌+◌, List, [], ◌∷◌, ◌++◌, sym, subst}
use Rattle.ruled_pipe.specs.Pipe.{Keeping}
use Rattle.ruled_pipe.specs.Consumer.{Taker}
use Rattle.run_ends.specs.Opened.{AreNewPipes}
use Rattle.run_ends.proofs.OpenedLemmas.{open_more}
use Rattle.run_ends.proofs.opening.NewPipes.with_pipe.Goals as goal

pub returns : goal.returns
returns g c = λ f k all at.
    let T : Type 0 = g.row.T.Denot in
    let n = c.args.producers in
    let os : List (Keeping T) = c.args.self.pipes.items in
    let ts : List (Taker T) = c.args.self.takers.items in
    let told = c.in_ok-pipe.ensures in
    let new = told.keeper in
    let more = open_more f n k c.args.capacity os ts c.in_ok-pipe.pipe c.in_ok-pipe.taker all new.2 new.3 new.1 new.0 told.consumer at in
    subst (λ (l : List (Keeping T)). AreNewPipes f n (k + 1) l c.push-2.new.self.items) (sym c.in_ok-push.ensures.items)
    (subst (λ (l : List (Taker T)). AreNewPipes f n (k + 1) (os ++ c.in_ok-pipe.pipe ∷ []) l) (sym c.in_ok-push-2.ensures.items) more)
