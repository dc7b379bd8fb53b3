use Rattle.std.proofs.Common.{rules}
use Rattle.scmp_answer.proofs.writing.seal.Goals as goal

pub returns-clause-text : goal.returns-clause-text
returns-clause-text c = search rules
