use Rattle.std.proofs.Common.{rules}
use Rattle.cli_replay.specs.StepLine.{end_of}
use Rattle.cli_replay.proofs.step_line.read_end.Goals as goal

pub returns-then-feeds : goal.returns-then-feeds
unfolding end_of
returns-then-feeds c = search rules
