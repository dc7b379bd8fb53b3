use Rattle.cli_replay.specs.Names.{processor_of}
use Rattle.std.proofs.Common.{rules}
use Rattle.cli_replay.proofs.names.read_processor.Goals as goal

pub returns-then-index-config : goal.returns-then-index-config
unfolding processor_of
returns-then-index-config c = search rules
