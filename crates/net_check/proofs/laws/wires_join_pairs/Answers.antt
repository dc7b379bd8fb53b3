use Rattle.net_check.proofs.PairLemmas.{wires_join_pairs as joined}
use Rattle.net_check.proofs.laws.wires_join_pairs.Goals as goal

pub returns : goal.returns
returns c = joined
