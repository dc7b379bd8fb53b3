use Rattle.pipe_model.proofs.Turns.{reached_more}
use Rattle.pipe_model.proofs.world.World.step.Goals as goal

pub invariant_of-self-2 : goal.invariant_of-self-2
invariant_of-self-2 c = reached_more _ _ _ _ c.in_ok-step.ensures.ok c.self.invariant
