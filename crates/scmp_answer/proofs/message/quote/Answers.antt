use Rattle.std.proofs.lemmas.Grind.{common_steps}
use Rattle.std.proofs.Common.{arith, rules}
use Rattle.scmp_answer.proofs.message.quote.Goals as goal

pub returns-then-bytes-room : goal.returns-then-bytes-room
returns-then-bytes-room c = grind (arith, common_steps)

pub returns-else-bytes-room : goal.returns-else-bytes-room
returns-else-bytes-room c = search rules
