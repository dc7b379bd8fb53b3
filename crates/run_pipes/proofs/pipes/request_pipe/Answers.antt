use Rattle.std.proofs.Common.{◌∙◌, sym, ap, ℕ}
use Rattle.ruled_pipe.specs.Consumer.{new_taker}
use Rattle.run_pipes.proofs.pipes.request_pipe.Goals as goal

pub returns-clause-pipe : goal.returns-clause-pipe
returns-clause-pipe g c = (c.in_ok-made.ensures.keeper.1 ∙ c.from-processors.ensures, c.in_ok-made.ensures.keeper.0)

pub returns-clause-taker : goal.returns-clause-taker
returns-clause-taker g c =
    let made = c.in_ok-made.ensures in
    let pipe = c.in_ok-made.made.0.pipe in
    made.consumer ∙ (ap (λ (m : ℕ). new_taker pipe m c.args.shared.now.config.capacity) (sym made.keeper.1) ∙ ap (λ (m : ℕ). new_taker pipe c.in_ok-made.made.0.producers m) (sym made.keeper.0))
