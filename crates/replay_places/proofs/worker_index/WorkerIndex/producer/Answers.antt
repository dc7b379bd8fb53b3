use Rattle.std.proofs.Common.{rules}
use Rattle.replay_places.proofs.worker_index.WorkerIndex.producer.Goals as goal

pub returns-in-Controller : goal.returns-in-Controller
returns-in-Controller c = search rules
