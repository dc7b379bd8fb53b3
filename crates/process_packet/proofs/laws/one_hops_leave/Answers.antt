use Rattle.process_packet.proofs.OneHopByteLemmas.{all_leave}
use Rattle.process_packet.proofs.laws.one_hops_leave.Goals as goal

pub returns : goal.returns
returns c = all_leave
