use Rattle.replay_laws.proofs.Sent.{keeps_sent}
use Rattle.replay_laws.proofs.laws.keeps_sent.Goals as goal

pub returns : goal.returns
returns g c = record { law = keeps_sent _ }
