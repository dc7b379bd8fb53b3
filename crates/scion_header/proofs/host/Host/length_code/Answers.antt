use Rattle.std.proofs.Common.{rules}
use Rattle.scion_header.proofs.host.Host.length_code.Goals as goal

pub returns-in-Twelve-clause-code : goal.returns-in-Twelve-clause-code
returns-in-Twelve-clause-code c = search rules
