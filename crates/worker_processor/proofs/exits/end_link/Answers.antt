use Rattle.std.proofs.Common.{rules}
use Rattle.worker_processor.proofs.exits.end_link.Goals as goal

pub returns : goal.returns
returns g c = search rules
