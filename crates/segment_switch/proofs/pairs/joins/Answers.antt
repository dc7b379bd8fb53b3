use Rattle.std.proofs.Common.{rules}
use Rattle.segment_switch.proofs.pairs.joins.Goals as goal

pub returns-in_default-2 : goal.returns-in_default-2
returns-in_default-2 c = search rules

pub returns-in-Core-Child-2 : goal.returns-in-Core-Child-2
returns-in-Core-Child-2 c = search rules
