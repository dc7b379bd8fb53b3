use Rattle.std.proofs.Common.{rules}
use Rattle.udp_devices.proofs.ends.destination.Goals as goal

pub returns-then-is_host_for : goal.returns-then-is_host_for
returns-then-is_host_for c = search rules

pub returns-else-is_same_family : goal.returns-else-is_same_family
returns-else-is_same_family c = search rules
