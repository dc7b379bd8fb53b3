use Rattle.std.proofs.Common.{ℕ, [], replicate, ◌∙◌, ap}
use Rattle.replay_state.proofs.Counted.{all_made, one_more}
use Rattle.replay_state.proofs.sent.Sent.new.Goals as goal

pub loop-i-preserved : goal.loop-i-preserved
loop-i-preserved c = one_more _ _ c.loop-i.i _ [] c.in_ok-push.ensures.items c.new.ensures c.loop-i.invariant

pub returns : goal.returns
returns c = c.loop-i.invariant ∙ ap (λ (n : ℕ). replicate n []) (all_made c.loop-i.i c.args.count c.loop-i.auto.i-end c.loop-i-test.false)
