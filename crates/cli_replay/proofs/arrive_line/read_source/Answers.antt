use Rattle.std.proofs.Common.{rules}
use Rattle.cli_replay.proofs.arrive_line.read_source.Goals as goal

pub returns-in_default : goal.returns-in_default
returns-in_default c = search rules
