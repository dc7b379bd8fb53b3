use Rattle.std.proofs.Common.{ℕ, replicate, false, refl, ◌∙◌, ap}
use Rattle.replay_state.proofs.Counted.{all_made, one_more}
use Rattle.replay_state.proofs.looks.Looks.new.Goals as goal

pub loop-i-preserved : goal.loop-i-preserved
loop-i-preserved c = one_more _ _ c.loop-i.i _ false c.in_ok-push.ensures.items refl c.loop-i.invariant

pub returns : goal.returns
returns c = c.loop-i.invariant ∙ ap (λ (n : ℕ). replicate n false) (all_made c.loop-i.i c.args.count c.loop-i.auto.i-end c.loop-i-test.false)
