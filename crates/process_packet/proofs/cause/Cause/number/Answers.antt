use Rattle.std.proofs.Common.{rules}
use Rattle.process_packet.proofs.cause.Cause.number.Goals as goal

pub returns-in-SendFailed-clause-number : goal.returns-in-SendFailed-clause-number
returns-in-SendFailed-clause-number c = search rules
