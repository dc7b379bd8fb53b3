use Rattle.cli_run.specs.Command.{close_of}
use Rattle.std.proofs.Common.{rules}
use Rattle.cli_run.proofs.command.read_close.Goals as goal

pub returns-in_err-link : goal.returns-in_err-link
unfolding close_of
returns-in_err-link c = search rules
