use Rattle.std.proofs.Common.{rules}
use Rattle.segment_switch.proofs.pairs.pair_ok.Goals as goal

pub returns-then-lawful : goal.returns-then-lawful
returns-then-lawful c = search rules
