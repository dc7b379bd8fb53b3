use Rattle.cli_run.specs.Command.{order_of}
use Rattle.std.proofs.Common.{rules}
use Rattle.cli_run.proofs.command.read_order.Goals as goal

pub returns-in_default : goal.returns-in_default
unfolding order_of
returns-in_default c = search rules
