use Rattle.std.proofs.Common.{rules}
use Rattle.segment_switch.proofs.fault.PairFault.code.Goals as goal

pub returns-in-StraightOn : goal.returns-in-StraightOn
returns-in-StraightOn c = search rules
