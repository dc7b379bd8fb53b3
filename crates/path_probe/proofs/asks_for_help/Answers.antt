use Rattle.std.proofs.Common.{arith}
use Rattle.path_probe.proofs.asks_for_help.Goals as goal

pub returns-then-is_one : goal.returns-then-is_one
returns-then-is_one c = λ ne. absurd (ne (omega arith))
