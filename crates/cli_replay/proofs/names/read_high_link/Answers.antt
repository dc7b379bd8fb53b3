use Rattle.cli_replay.specs.Names.{high_link_of}
use Rattle.std.proofs.Common.{rules}
use Rattle.cli_replay.proofs.names.read_high_link.Goals as goal

pub returns-then-has_two_bands : goal.returns-then-has_two_bands
unfolding high_link_of
returns-then-has_two_bands c = search rules
