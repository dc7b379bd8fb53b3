-- Workers and pipes by the names that callers know, as the pipeline's laws know them: with links by their numbers.
use Rattle.replay_laws.specs.Worker.{Worker, Receiver, Processor, Slow, Forwarder, Controller, Queue, Of, High}
use Rattle.process_packet.specs.declared.config.Config.{Config}
use Rattle.router_rules.specs.Links.{link_index}
use Rattle.replay_places.specs.declared.queue.Queue.{Queue as NamedQueue}
use Rattle.replay_places.specs.declared.queue.Queue.TheVariants as queue
use Rattle.router_rules.specs.declared.worker.Worker.{Worker as Named}
use Rattle.router_rules.specs.declared.worker.Worker.TheVariants as named

abbrev pub worker_in : Config → Named → Worker
worker_in c (named.Receiver id) = Receiver (link_index c id)
worker_in c (named.Processor i) = Processor i
worker_in c named.Slow = Slow
worker_in c (named.Forwarder id) = Forwarder (link_index c id)
worker_in c named.Controller = Controller

abbrev pub queue_in : Config → NamedQueue → Queue
queue_in c (queue.Of w) = Of (worker_in c w)
queue_in c (queue.High id) = High (link_index c id)
