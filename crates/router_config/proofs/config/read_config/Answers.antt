use Rattle.std.proofs.Common.{rules}
use Rattle.router_config.proofs.config.read_config.Goals as goal

pub returns-in-Err-2 : goal.returns-in-Err-2
returns-in-Err-2 c = search rules
