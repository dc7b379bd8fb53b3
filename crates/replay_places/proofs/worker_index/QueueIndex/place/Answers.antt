use Rattle.std.proofs.Common.{rules}
use Rattle.replay_places.proofs.worker_index.QueueIndex.place.Goals as goal

pub returns-in-High : goal.returns-in-High
returns-in-High c = search rules
