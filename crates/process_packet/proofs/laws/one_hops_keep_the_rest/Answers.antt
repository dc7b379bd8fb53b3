use Rattle.process_packet.proofs.OneHopLawLemmas.{keeps_the_rest}
use Rattle.process_packet.proofs.laws.one_hops_keep_the_rest.Goals as goal

pub returns : goal.returns
returns c = keeps_the_rest
