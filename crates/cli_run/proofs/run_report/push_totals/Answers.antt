use Rattle.std.proofs.lemmas.Grind.{common_steps}
use Rattle.std.proofs.Common.{arith}
use Rattle.cli_run.proofs.run_report.push_totals.Goals as goal

pub returns : goal.returns
returns c = grind (arith, common_steps)
