use Rattle.std.proofs.Common.{rules}
use Rattle.cli_route.proofs.answers.write_answer.Goals as goal

pub returns : goal.returns
returns c = search rules
