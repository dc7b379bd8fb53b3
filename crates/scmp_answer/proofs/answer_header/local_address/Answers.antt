use Rattle.std.proofs.Common.{rules}
use Rattle.scmp_answer.proofs.answer_header.local_address.Goals as goal

pub returns : goal.returns
returns c = search rules
