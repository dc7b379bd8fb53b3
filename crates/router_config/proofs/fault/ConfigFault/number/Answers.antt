use Rattle.std.proofs.Common.{rules}
use Rattle.router_config.proofs.fault.ConfigFault.number.Goals as goal

pub returns-in-Address : goal.returns-in-Address
returns-in-Address c = search rules
