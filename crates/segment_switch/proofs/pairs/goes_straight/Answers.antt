use Rattle.std.proofs.Common.{rules}
use Rattle.segment_switch.proofs.pairs.goes_straight.Goals as goal

pub returns-in_default-2 : goal.returns-in_default-2
returns-in_default-2 c = search rules

pub returns-in-Core-Core-2 : goal.returns-in-Core-Core-2
returns-in-Core-Core-2 c = search rules
