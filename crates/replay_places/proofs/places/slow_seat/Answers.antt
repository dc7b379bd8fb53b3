use Rattle.std.proofs.Common.{rules}
use Rattle.replay_places.proofs.places.slow_seat.Goals as goal

pub returns-clause-place : goal.returns-clause-place
returns-clause-place c = search rules
