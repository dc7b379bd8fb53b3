use Rattle.replay_laws.proofs.Totals.{keeps_totals}
use Rattle.replay_laws.proofs.laws.keeps_totals.Goals as goal

pub returns : goal.returns
returns g c = record { law = keeps_totals _ }
