use Rattle.process_packet.proofs.WaysLemmas.{sent_by}
use Rattle.process_packet.proofs.laws.sent_by_three_ways.Goals as goal

pub returns : goal.returns
returns c = sent_by
