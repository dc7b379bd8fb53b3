use Rattle.std.proofs.Common.{rules}
use Rattle.replay_places.proofs.places.seat_count.Goals as goal

pub returns-clause-count : goal.returns-clause-count
returns-clause-count c = search rules
