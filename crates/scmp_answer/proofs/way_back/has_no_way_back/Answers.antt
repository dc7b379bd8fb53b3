use Rattle.std.proofs.Common.{rules}
use Rattle.scmp_answer.proofs.way_back.has_no_way_back.Goals as goal

pub returns-then-link-ne0 : goal.returns-then-link-ne0
returns-then-link-ne0 c = search rules
