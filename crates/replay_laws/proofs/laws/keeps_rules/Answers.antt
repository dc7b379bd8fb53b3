use Rattle.replay_laws.proofs.ByRules.{keeps_rules}
use Rattle.replay_laws.proofs.laws.keeps_rules.Goals as goal

pub returns : goal.returns
returns g c = record { law = keeps_rules _ }
