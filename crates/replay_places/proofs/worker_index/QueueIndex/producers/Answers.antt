use Rattle.std.proofs.Common.{rules}
use Rattle.replay_places.proofs.worker_index.QueueIndex.producers.Goals as goal

pub returns-in-Of-Forwarder : goal.returns-in-Of-Forwarder
returns-in-Of-Forwarder c = search rules
