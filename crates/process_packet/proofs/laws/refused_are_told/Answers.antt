use Rattle.process_packet.proofs.RefusalLemmas.{refused_told}
use Rattle.process_packet.proofs.laws.refused_are_told.Goals as goal

pub returns : goal.returns
returns c = refused_told
