use Rattle.replay_laws.proofs.Stepwise.{stepwise}
use Rattle.replay_laws.proofs.laws.runs_stepwise.Goals as goal

pub returns : goal.returns
returns g c = record { law = stepwise _ }
