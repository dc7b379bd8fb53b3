use Rattle.std.proofs.Common.{rules}
use Rattle.worker_parts.proofs.inlet.end_of.Goals as goal

pub returns-in-Marked-End : goal.returns-in-Marked-End
returns-in-Marked-End g c = search rules
