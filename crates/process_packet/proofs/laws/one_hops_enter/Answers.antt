use Rattle.process_packet.proofs.OneHopByteLemmas.{all_enter}
use Rattle.process_packet.proofs.laws.one_hops_enter.Goals as goal

pub returns : goal.returns
returns c = all_enter
