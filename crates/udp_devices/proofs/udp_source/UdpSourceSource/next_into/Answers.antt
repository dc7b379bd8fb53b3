use Rattle.std.proofs.Common.{rules}
use Rattle.udp_devices.proofs.udp_source.UdpSourceSource.next_into.Goals as goal

pub returns-then-eq-clause-failed : goal.returns-then-eq-clause-failed
returns-then-eq-clause-failed g c = search rules

pub returns-else-eq-clause-failed : goal.returns-else-eq-clause-failed
returns-else-eq-clause-failed g c = search rules
