use Rattle.process_packet.proofs.OneHopRefusalLemmas.{refused_one_hops}
use Rattle.process_packet.proofs.laws.one_hops_are_refused_so.Goals as goal

pub returns : goal.returns
returns c = refused_one_hops
