use Rattle.std.proofs.Common.{rules}
use Rattle.udp_devices.proofs.address.plain_ip.Goals as goal

pub returns-in-V6 : goal.returns-in-V6
returns-in-V6 c = search rules
