use Rattle.std.proofs.Common.{map}
use Rattle.replay_steps.specs.Step.{step_in}
use Rattle.pipe_model.proofs.Turns.{arriving_kept}
use Rattle.pipe_model.proofs.laws.arrivals_stay.Goals as goal

pub returns : goal.returns
returns c = λ p ss. arriving_kept p.config p.world (map (step_in p.config) ss)
