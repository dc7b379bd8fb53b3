use Rattle.host_ports.proofs.NoneLemmas.{nothing_else}
use Rattle.host_ports.proofs.laws.nothing_else_gives_a_port.Goals as goal

pub returns : goal.returns
returns c = nothing_else
