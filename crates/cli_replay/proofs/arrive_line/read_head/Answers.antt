use Rattle.cli_replay.specs.ArriveLine.{head_of}
use Rattle.std.proofs.Common.{rules}
use Rattle.cli_replay.proofs.arrive_line.read_head.Goals as goal

pub returns-clause-value : goal.returns-clause-value
unfolding head_of
returns-clause-value c = search rules
