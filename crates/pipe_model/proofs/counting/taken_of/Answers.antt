use Rattle.std.proofs.Common.{◌∙◌, ap, arith}
use Rattle.replay_laws.specs.Pipe.{Pipe}
use Rattle.router_rules.specs.Rules.{kinds}
use Rattle.pipe_model.proofs.Sums.{total_more}
use Rattle.pipe_model.proofs.counting.taken_of.Goals as goal

pub loop-pipe-preserved : goal.loop-pipe-preserved
loop-pipe-preserved c =
    let more = total_more (λ p. p.taken) c.args.pipes.now c.loop-pipe.pipe-index c.pipe-item.result c.loop-pipe-test.true in
    let here = c.taken.ensures ∙ ap (λ (p : Pipe kinds). p.taken) c.pipe-item.is in
    record { count = omega (arith, more, here, c.loop-pipe.invariant.count); few = omega (arith, c.loop-pipe.invariant.few, c.taken.type_inv) }
