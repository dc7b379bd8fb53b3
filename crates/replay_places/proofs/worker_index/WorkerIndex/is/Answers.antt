use Rattle.std.proofs.Common.{rules}
use Rattle.replay_places.proofs.worker_index.WorkerIndex.is.Goals as goal

pub returns-in-Receiver-Receiver : goal.returns-in-Receiver-Receiver
returns-in-Receiver-Receiver c = search rules
