use Rattle.std.proofs.Common.{rules}
use Rattle.udp_devices.proofs.ends.is_same_family.Goals as goal

pub returns-in_default-2 : goal.returns-in_default-2
returns-in_default-2 c = search rules
