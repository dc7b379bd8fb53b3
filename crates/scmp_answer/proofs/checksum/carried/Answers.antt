use Rattle.std.proofs.Common.{rules}
use Rattle.scmp_answer.proofs.checksum.carried.Goals as goal

pub returns : goal.returns
returns c = search rules
