-- Who feeds a pipe under which number. A pipe's producers are numbered from 0: receivers by their links, processors in their
-- order, and of a link's pipes after the processors the slow path, then the controller.
use Rattle.std.specs.Prelude.{◌≡◌, ◌<◌, ℕ, true, ◌+◌, Option, Some, None}
use Rattle.order_laws.specs.Kinds.{Kinds}
use Rattle.replay_laws.specs.Next.{feeds}
use Rattle.order_laws.specs.Rules.{Rules}
use Rattle.replay_laws.specs.Worker.{Worker, Receiver, Processor, Slow, Forwarder, Controller, Queue, Of, High, same_worker}
use Rattle.replay_laws.specs.World.{has_worker}
use Rattle.process_packet.specs.declared.config.Config.{Config}
use Rattle.router_rules.specs.Rules.{rules}

module _ {K : Kinds} where
  -- a forwarder feeds none
  abbrev pub producer_of : Rules K → Worker → Option ℕ
  producer_of R (Receiver a) = Some a
  producer_of R (Processor i) = Some i
  producer_of R Slow = Some R.processors
  producer_of R (Forwarder l) = None
  producer_of R Controller = Some (R.processors + 1)

  -- how many producers a pipe has; nobody feeds a receiver's, and the controller has none
  abbrev pub producer_count : Rules K → Queue → ℕ
  producer_count R (Of (Receiver a)) = 0
  producer_count R (Of (Processor i)) = R.links
  producer_count R (Of Slow) = R.processors
  producer_count R (Of (Forwarder l)) = R.processors + 2
  producer_count R (Of Controller) = 0
  producer_count R (High l) = R.processors + 2

-- A worker that feeds a pipe has a number there, and no other that feeds it has the same.
pub record IsProducer {K : Kinds} (R : Rules K) (q : Queue) (W : Worker) : Type 0 where
  pub number : ℕ
  pub is : producer_of R W ≡ Some number
  pub within : number < producer_count R q
  pub alone : (V : Worker) → feeds V q ≡ true → has_worker R V ≡ true → producer_of R V ≡ Some number → same_worker V W ≡ true

abbrev pub ProducersAreNumbered : Type 0
ProducersAreNumbered = (c : Config) (q : Queue) (W : Worker) → feeds W q ≡ true → has_worker (rules c) W ≡ true → IsProducer (rules c) q W
