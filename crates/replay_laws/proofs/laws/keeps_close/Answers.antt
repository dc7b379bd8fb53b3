use Rattle.replay_laws.proofs.Close.{keeps_close}
use Rattle.replay_laws.proofs.laws.keeps_close.Goals as goal

pub returns : goal.returns
returns g c = record { law = keeps_close _ }
