use Rattle.std.proofs.Common.{rules}
use Rattle.udp_devices.proofs.address.socket_address.Goals as goal

pub returns-clause-same : goal.returns-clause-same
returns-clause-same c = search rules

pub returns-clause-plain : goal.returns-clause-plain
returns-clause-plain c = search rules
