use Rattle.std.proofs.Common.{rules}
use Rattle.worker_parts.proofs.request.answer_packet.Goals as goal

pub returns-in-Send-clause-named : goal.returns-in-Send-clause-named
returns-in-Send-clause-named g c = search rules
