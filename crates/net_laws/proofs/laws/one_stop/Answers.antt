use Rattle.net_laws.proofs.StopLemmas.{ends, goes_on}
use Rattle.net_laws.proofs.laws.one_stop.Goals as goal

pub returns : goal.returns
returns c = record { ends = ends; goes_on = goes_on }
