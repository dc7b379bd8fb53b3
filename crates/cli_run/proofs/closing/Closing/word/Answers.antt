use Rattle.std.proofs.Common.{rules}
use Rattle.cli_run.proofs.closing.Closing.word.Goals as goal

pub returns-in-Already : goal.returns-in-Already
returns-in-Already c = search rules
