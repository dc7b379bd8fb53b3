use Rattle.std.proofs.Common.{rules}
use Rattle.worker_parts.proofs.read_buffer.ReadBuffer.front.Goals as goal

pub returns : goal.returns
returns c = search rules
