use Rattle.net_walks.proofs.OneHopCrossing.{beacons_cross}
use Rattle.net_walks.proofs.laws.beacons_cross.Goals as goal

pub returns : goal.returns
returns c = beacons_cross
