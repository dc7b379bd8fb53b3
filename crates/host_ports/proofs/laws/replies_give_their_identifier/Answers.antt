use Rattle.host_ports.proofs.GivenLemmas.{reply_gives}
use Rattle.host_ports.proofs.laws.replies_give_their_identifier.Goals as goal

pub returns : goal.returns
returns c = reply_gives
