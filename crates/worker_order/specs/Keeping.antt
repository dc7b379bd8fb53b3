-- The laws that the workers of a router keep, each with its log first.
use Rattle.std.specs.Prelude.{◌≡◌, ℕ, Bool, List, length, Option}
use Rattle.order_laws.specs.Item.{Arrival, Outgoing}
use Rattle.order_laws.specs.Deeds.{Each, Deed, done_items}
use Rattle.order_laws.specs.Settled.{SlowPathRequest}
use Rattle.process_packet.specs.declared.cause.Cause.{Cause}
use Rattle.process_packet.specs.declared.config.Config.{Config}
use Rattle.packet_ledger.specs.Share.{Held}
use Rattle.ruled_pipe.specs.Producer.{Sender}
use Rattle.ruled_pipe.specs.Consumer.{Taker}
use Rattle.router_rules.specs.Rules.{kinds, rules}
use Rattle.worker_laws.specs.Ends.{pushes}
use Rattle.worker_laws.specs.Works.{Keeps}
use Rattle.worker_laws.specs.Answers.{KeepsAnswers}
use Rattle.worker_laws.specs.Receives.{KeepsReceiver, lacks}
use Rattle.worker_laws.specs.Forwards.{Handed, KeepsForwarder}
use Rattle.worker_laws.specs.Counting.{counted_receiving, counted_working, counted_answering, counted_forwarding}
use Rattle.worker_order.specs.Heard.{Heard, TellsOf}
use Rattle.worker_order.specs.Shares.{Counts}

-- The receiver of a link, with how many datagrams it numbered, and how often it looked for a buffer in vain.
pub record IsReceiving (c : Config) (link interface number : ℕ) (told : Option (List Heard)) (looks : List ℕ) (senders : List (Sender (Arrival kinds))) (share : Held) : Type 0 where
  pub log : List (Deed Cause (Arrival kinds))
  pub law : KeepsReceiver (rules c) link log senders
  pub stands : Each (λ (d : Deed Cause (Arrival kinds)). d.item.datagram.interface ≡ interface) log
  pub count : length (done_items log) ≡ number
  pub tells : TellsOf link interface told (done_items log)
  pub lacked : lacks log ≡ length looks
  pub counts : Counts share (counted_receiving {K = kinds} log)

pub record IsWorking (c : Config) (taker : Taker (Arrival kinds)) (hand : Option (Arrival kinds)) (senders : List (Sender (Outgoing kinds))) (slow : Sender (SlowPathRequest kinds)) (share : Held) : Type 0 where
  pub log : List (Deed Cause (Arrival kinds))
  pub law : Keeps (rules c) log taker hand senders slow
  pub counts : Counts share (counted_working (rules c) log)

pub record IsAnswering (c : Config) (taker : Taker (SlowPathRequest kinds)) (senders : List (Sender (Outgoing kinds))) (share : Held) : Type 0 where
  pub log : List (Deed Cause (SlowPathRequest kinds))
  pub law : KeepsAnswers (rules c) log taker senders
  pub counts : Counts share (counted_answering {K = kinds} log)

-- A forwarder, with how often its sink had failed at the start; what it hands over its sink shows in its own way.
pub record IsForwarding {T : Type 0} (shows : Handed kinds → T) (low high : Taker (Outgoing kinds)) (low_shut high_shut : Bool) (told : Option (List T)) (began failed : ℕ) (share : Held) : Type 0 where
  pub went : List (Handed kinds)
  pub law : KeepsForwarder shows went (pushes low.taken) (pushes high.taken) low_shut high_shut told began failed
  pub counts : Counts share (counted_forwarding went (pushes low.taken) (pushes high.taken))
