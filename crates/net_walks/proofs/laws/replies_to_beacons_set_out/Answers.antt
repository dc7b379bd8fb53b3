use Rattle.net_walks.proofs.OneHopCrossing.{replies_set_out}
use Rattle.net_walks.proofs.laws.replies_to_beacons_set_out.Goals as goal

pub returns : goal.returns
returns c = replies_set_out
