use Rattle.process_packet.proofs.AuthorisedLemmas.{authorised_sent}
use Rattle.process_packet.proofs.laws.authorised_is_sent.Goals as goal

pub returns : goal.returns
returns c = authorised_sent
