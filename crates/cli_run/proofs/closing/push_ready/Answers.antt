use Rattle.std.proofs.Common.{rules}
use Rattle.cli_run.proofs.closing.push_ready.Goals as goal

pub returns : goal.returns
returns c = search rules
