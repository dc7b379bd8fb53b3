use Rattle.std.proofs.Common.{rules}
use Rattle.worker_parts.proofs.buffer.Buffer.new.Goals as goal

pub invariant_of-result : goal.invariant_of-result
invariant_of-result c = search rules
