use Rattle.net_laws.proofs.BeaconLemmas.{holds}
use Rattle.net_laws.proofs.laws.stretches_hold.Goals as goal

pub returns : goal.returns
returns c = holds
