use Rattle.std.proofs.Common.{rules}
use Rattle.worker_parts.proofs.inlet.Inlet.is_done.Goals as goal

pub returns-clause-done : goal.returns-clause-done
returns-clause-done g c = search rules
