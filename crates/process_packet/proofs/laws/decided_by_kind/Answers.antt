use Rattle.process_packet.proofs.OneHopLawLemmas.{by_kind}
use Rattle.process_packet.proofs.laws.decided_by_kind.Goals as goal

pub returns : goal.returns
returns c = by_kind
