-- Workers and pipes whose links go by their numbers, as the pipeline's laws know them.
use Rattle.replay_laws.specs.Worker.{Worker, Queue, Of, High}
use Rattle.replay_places.specs.declared.worker_index.WorkerIndex.{WorkerIndex}
use Rattle.replay_places.specs.declared.worker_index.WorkerIndex.TheVariants as worker_index
use Rattle.replay_places.specs.declared.worker_index.QueueIndex.{QueueIndex}
use Rattle.replay_places.specs.declared.worker_index.QueueIndex.TheVariants as queue_index

abbrev pub worker_of : WorkerIndex → Worker
worker_of (worker_index.Receiver a) = Worker.Receiver a
worker_of (worker_index.Processor i) = Worker.Processor i
worker_of worker_index.Slow = Worker.Slow
worker_of (worker_index.Forwarder l) = Worker.Forwarder l
worker_of worker_index.Controller = Worker.Controller

abbrev pub queue_of : QueueIndex → Queue
queue_of (queue_index.Of w) = Of (worker_of w)
queue_of (queue_index.High l) = High l
