use Rattle.std.proofs.Common.{rules}
use Rattle.replay_places.proofs.worker_index.WorkerIndex.seat.Goals as goal

pub returns-in-Forwarder : goal.returns-in-Forwarder
returns-in-Forwarder c = search rules
