use Rattle.std.proofs.Common.{ℕ, ◌++◌, replicate, ◌∙◌, ap}
use Rattle.replay_laws.specs.Pipe.{empty_pipe}
use Rattle.replay_state.proofs.Counted.{all_made, one_more_after}
use Rattle.replay_state.proofs.pipes.Pipes.new.Goals as goal

pub loop-i-preserved : goal.loop-i-preserved
loop-i-preserved c = one_more_after _ _ _ c.loop-i.i _ (empty_pipe c.args.capacity) c.in_ok-push.ensures.items c.new.ensures c.loop-i.invariant

pub returns : goal.returns
returns c = c.loop-i.invariant ∙ ap (λ (n : ℕ). c.args.sources.items ++ replicate n (empty_pipe c.args.capacity)) (all_made c.loop-i.i c.args.count c.loop-i.auto.i-end c.loop-i-test.false)
