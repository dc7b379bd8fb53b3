use Rattle.std.proofs.Common.{rules}
use Rattle.cli_replay.proofs.step_line.read_outcome.Goals as goal

pub returns-in-failed : goal.returns-in-failed
returns-in-failed c = search rules
