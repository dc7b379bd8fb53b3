use Rattle.std.proofs.lemmas.Grind.{common_steps}
use Rattle.std.proofs.Common.{arith}
use Rattle.cli_run.proofs.closing.push_no_command.Goals as goal

pub returns : goal.returns
returns c = grind (arith, common_steps)
