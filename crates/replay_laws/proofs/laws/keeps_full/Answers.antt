use Rattle.replay_laws.proofs.Full.{keeps_full_law}
use Rattle.replay_laws.proofs.laws.keeps_full.Goals as goal

pub returns : goal.returns
returns g c = record { law = keeps_full_law _ }
