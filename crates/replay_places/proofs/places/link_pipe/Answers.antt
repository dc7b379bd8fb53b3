use Rattle.std.proofs.Common.{rules}
use Rattle.replay_places.proofs.places.link_pipe.Goals as goal

pub returns : goal.returns
returns c = search rules
