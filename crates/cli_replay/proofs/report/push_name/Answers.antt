use Rattle.std.proofs.lemmas.Grind.{common_steps}
use Rattle.std.proofs.Common.{arith}
use Rattle.cli_replay.proofs.report.push_name.Goals as goal

pub returns-else-left : goal.returns-else-left
returns-else-left c = grind (arith, common_steps)
