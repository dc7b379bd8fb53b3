use Rattle.std.proofs.lemmas.Grind.{common_steps}
use Rattle.std.proofs.Common.{arith}
use Rattle.cli_io.proofs.counts.push_drop_line.Goals as goal

pub returns : goal.returns
returns c = grind (arith, common_steps)
