use Rattle.std.proofs.Common.{rules}
use Rattle.worker_parts.proofs.read_buffer.ReadBuffer.read.Goals as goal

pub returns-clause-failed : goal.returns-clause-failed
returns-clause-failed g c = search rules
