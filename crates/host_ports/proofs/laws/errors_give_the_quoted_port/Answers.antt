use Rattle.host_ports.proofs.GivenLemmas.{errors_give}
use Rattle.host_ports.proofs.laws.errors_give_the_quoted_port.Goals as goal

pub returns : goal.returns
returns c = errors_give
