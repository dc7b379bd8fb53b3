-- The running theorem, as far as it speaks of lists: workers as they came back, and what they did.
use Rattle.std.specs.Prelude.{◌≡◌, ◌<◌, ◌+◌, ◌*◌, ℕ, Bool, false, List, [], ◌∷◌, ◌++◌, map, length, Option, Some, None, slice_get}
use Rattle.order_laws.specs.Counts.{count}
use Rattle.order_laws.specs.Item.{Arrival, Outgoing}
use Rattle.order_laws.specs.Deeds.{payloads, has_mark, Each, Deed, done_items}
use Rattle.order_laws.specs.Rules.{IsLawful}
use Rattle.order_laws.specs.Settled.{SlowPathRequest, IsTold, told}
use Rattle.process_packet.specs.declared.cause.Cause.{Cause}
use Rattle.process_packet.specs.declared.config.Config.{Config}
use Rattle.packet_ledger.specs.Share.{Held, forwarded}
use Rattle.ruled_pipe.specs.Producer.{Sender}
use Rattle.ruled_pipe.specs.Consumer.{Taker}
use Rattle.router_rules.specs.Links.{interface_at, link_count}
use Rattle.router_rules.specs.Rules.{kinds, rules}
use Rattle.worker_laws.specs.Ends.{pushes}
use Rattle.worker_laws.specs.Works.{Keeps}
use Rattle.worker_laws.specs.Answers.{KeepsAnswers}
use Rattle.worker_laws.specs.Receives.{KeepsReceiver, lacks}
use Rattle.worker_laws.specs.Forwards.{Handed, refusals_of, KeepsForwarder}
use Rattle.worker_laws.specs.Counting.{counted_receiving, counted_working, counted_answering, counted_forwarding}
use Rattle.worker_laws.specs.Gathers.{TookAll}
use Rattle.worker_laws.specs.Ended.{Ended, HasEnded}
use Rattle.worker_laws.specs.Places.{StandsOnce}
use Rattle.worker_laws.specs.Reasons.{HasReasons, HasMerged}
use Rattle.worker_laws.specs.Workers.{Receiver, Processor, SlowPath, Forwarder, Workers, IsColumn, views_of, slow_views, went_at}
use Rattle.worker_order.specs.Heard.{Heard, TellsOf}
use Rattle.worker_order.specs.Shares.{Counts}
use Rattle.worker_order.specs.Totals.{totals_of, HasTotals}
use Rattle.worker_order.specs.Keeping.{IsReceiving, IsWorking, IsAnswering, IsForwarding}

-- ---- workers as they came back: their ends, their shares, what their devices tell

pub record ReceiverBack : Type 0 where
  pub number : ℕ  -- how many datagrams it numbered
  pub told : Option (List Heard)
  pub looks : List ℕ
  pub senders : List (Sender (Arrival kinds))
  pub share : Held

pub record ProcessorBack : Type 0 where
  pub taker : Taker (Arrival kinds)
  pub links : List (Sender (Outgoing kinds))
  pub slow : Sender (SlowPathRequest kinds)
  pub share : Held

pub record SlowBack : Type 0 where
  pub taker : Taker (SlowPathRequest kinds)
  pub links : List (Sender (Outgoing kinds))
  pub share : Held

pub record ForwarderBack (T : Type 0) : Type 0 where
  pub low : Taker (Outgoing kinds)
  pub high : Taker (Outgoing kinds)
  pub low_shut : Bool
  pub high_shut : Bool
  pub told : Option (List T)
  pub began : ℕ
  pub failed : ℕ
  pub share : Held

pub record Returned (T : Type 0) : Type 0 where
  pub receivers : List ReceiverBack
  pub processors : List ProcessorBack
  pub slow : SlowBack
  pub forwarders : List (ForwarderBack T)
  pub controller : List (Sender (Outgoing kinds))

-- one after another, from number n on
abbrev pub AllAt : {X : Type 0} → (ℕ → X → Type 0) → ℕ → List X → Type 0
AllAt P n [] = Unit {0}
AllAt P n (x ∷ xs) = P n x × AllAt P (n + 1) xs

abbrev pub IsBackReceiver : Config → ℕ → ReceiverBack → Type 0
IsBackReceiver c a r = IsReceiving c a (interface_at c a) r.number r.told r.looks r.senders r.share × (length r.senders ≡ c.processors)

abbrev pub IsBackProcessor : Config → ℕ → ProcessorBack → Type 0
IsBackProcessor c i p = IsWorking c p.taker None p.links p.slow p.share × (length p.links ≡ 2 * link_count c)

abbrev pub IsBackForwarder : {T : Type 0} → (Handed kinds → T) → ℕ → ForwarderBack T → Type 0
IsBackForwarder shows l f = IsForwarding shows f.low f.high f.low_shut f.high_shut f.told f.began f.failed f.share

abbrev pub link_rows : {T : Type 0} → Returned T → List (List (Sender (Outgoing kinds)))
link_rows b = map (λ (p : ProcessorBack). p.links) b.processors ++ (b.slow.links ∷ b.controller ∷ [])

-- in the order in which the book closes them
abbrev pub shares_of : {T : Type 0} → Returned T → List Held
shares_of b = map (λ (r : ReceiverBack). r.share) b.receivers ++ (map (λ (p : ProcessorBack). p.share) b.processors ++ (b.slow.share ∷ map (λ f. f.share) b.forwarders))

-- What workers, pipes and the controller give, which closed the links' pipes of some numbers: link l's at 2 * l, its high band's
-- at 2 * l + 1.
pub record HaveReturned {T : Type 0} (shows : Handed kinds → T) (c : Config) (b : Returned T) (closed : ℕ → Bool) : Type 0 where
  pub receivers : AllAt (IsBackReceiver c) 0 b.receivers
  pub processors : AllAt (IsBackProcessor c) 0 b.processors
  pub slow : IsAnswering c b.slow.taker b.slow.links b.slow.share × (length b.slow.links ≡ 2 * link_count c)
  pub forwarders : AllAt (IsBackForwarder shows) 0 b.forwarders
  pub receiver_count : length b.receivers ≡ link_count c
  pub processor_count : length b.processors ≡ c.processors
  pub forwarder_count : length b.forwarders ≡ link_count c
  pub controller_count : length b.controller ≡ 2 * link_count c
  -- what was taken of each pipe is what its producers had accepted
  pub packets : (i : ℕ) (p : ProcessorBack) → slice_get b.processors i ≡ Some p → (row : List (Sender (Arrival kinds))) × IsColumn i (map (λ (r : ReceiverBack). r.senders) b.receivers) row × TookAll row (pushes p.taker.taken)
  pub requests : TookAll (map (λ (p : ProcessorBack). p.slow) b.processors) (pushes b.slow.taker.taken)
  pub low : (l : ℕ) (f : ForwarderBack T) → slice_get b.forwarders l ≡ Some f → (row : List (Sender (Outgoing kinds))) × IsColumn (2 * l) (link_rows b) row × TookAll row (pushes f.low.taken)
  pub high : (l : ℕ) (f : ForwarderBack T) → slice_get b.forwarders l ≡ Some f → (row : List (Sender (Outgoing kinds))) × IsColumn (2 * l + 1) (link_rows b) row × TookAll row (pushes f.high.taken)
  -- the controller pushes only marks, and it alone pushes closing marks
  pub marks : (j : ℕ) (s : Sender (Outgoing kinds)) → slice_get b.controller j ≡ Some s → payloads (pushes s.offers) ≡ []
  pub closes : (j : ℕ) (s : Sender (Outgoing kinds)) → slice_get b.controller j ≡ Some s → has_mark (pushes s.offers) ≡ closed j
  pub processors_close_none : (i j : ℕ) (p : ProcessorBack) (s : Sender (Outgoing kinds)) → slice_get b.processors i ≡ Some p → slice_get p.links j ≡ Some s → has_mark (pushes s.offers) ≡ false
  pub slow_closes_none : (j : ℕ) (s : Sender (Outgoing kinds)) → slice_get b.slow.links j ≡ Some s → has_mark (pushes s.offers) ≡ false

-- ---- what they did: each worker with its log

pub record IsReceiverOf (c : Config) (a : ℕ) (x : Receiver kinds) (r : ReceiverBack) : Type 0 where
  pub senders : x.senders ≡ r.senders
  pub law : KeepsReceiver (rules c) a x.log x.senders × (length x.senders ≡ c.processors)
  pub stands : Each (λ (d : Deed Cause (Arrival kinds)). d.item.datagram.interface ≡ interface_at c a) x.log
  pub tells : TellsOf a (interface_at c a) r.told (done_items x.log)
  pub count : length (done_items x.log) ≡ r.number
  pub lacked : lacks x.log ≡ length r.looks
  pub counts : Counts r.share (counted_receiving {K = kinds} x.log)

pub record IsProcessorOf (c : Config) (i : ℕ) (x : Processor kinds) (p : ProcessorBack) : Type 0 where
  pub taker : x.taker ≡ p.taker
  pub links : x.links ≡ p.links
  pub slow : x.slow ≡ p.slow
  pub law : Keeps (rules c) x.log x.taker None x.links x.slow × (length x.links ≡ 2 * link_count c)
  pub counts : Counts p.share (counted_working (rules c) x.log)

pub record IsSlowOf (c : Config) (x : SlowPath kinds) (s : SlowBack) : Type 0 where
  pub taker : x.taker ≡ s.taker
  pub links : x.links ≡ s.links
  pub law : KeepsAnswers (rules c) x.log x.taker x.links × (length x.links ≡ 2 * link_count c)
  pub counts : Counts s.share (counted_answering {K = kinds} x.log)

pub record IsForwarderOf {T : Type 0} (shows : Handed kinds → T) (l : ℕ) (x : Forwarder kinds) (f : ForwarderBack T) : Type 0 where
  pub low : x.low ≡ f.low
  pub high : x.high ≡ f.high
  pub law : KeepsForwarder shows x.went (pushes x.low.taken) (pushes x.high.taken) f.low_shut f.high_shut f.told f.began f.failed
  pub counts : Counts f.share (counted_forwarding x.went (pushes x.low.taken) (pushes x.high.taken))

abbrev pub Pairs : {X Y : Type 0} → (ℕ → X → Y → Type 0) → ℕ → List X → List Y → Type 0
Pairs P n [] [] = Unit {0}
Pairs P n (x ∷ xs) (y ∷ ys) = P n x y × Pairs P (n + 1) xs ys
Pairs P n _ _ = ⊥

-- Workers with their logs, which have the ends that came back.
pub record AreWorkersOf {T : Type 0} (shows : Handed kinds → T) (c : Config) (w : Workers kinds) (b : Returned T) : Type 0 where
  pub receivers : Pairs (IsReceiverOf c) 0 w.receivers b.receivers
  pub processors : Pairs (IsProcessorOf c) 0 w.processors b.processors
  pub slow : IsSlowOf c w.slow b.slow
  pub forwarders : Pairs (IsForwarderOf shows) 0 w.forwarders b.forwarders
  pub controller : w.controller ≡ b.controller

-- What the threads did, once they have ended and were gathered.
pub record WorkersHaveRun {T : Type 0} (shows : Handed kinds → T) (c : Config) (b : Returned T) (closed : ℕ → Bool) : Type 0 where
  pub workers : Workers kinds
  pub theirs : AreWorkersOf shows c workers b
  -- what they keep, and what follows
  pub lawful : IsLawful (rules c) (IsTold (views_of (rules c) workers))
  pub keeps : Ended (rules c) (views_of (rules c) workers) (slow_views (rules c) workers) (went_at workers) closed
  pub ended : HasEnded (rules c) (views_of (rules c) workers) (slow_views (rules c) workers) (went_at workers) closed
  pub once : (a n : ℕ) → StandsOnce (rules c) (views_of (rules c) workers) (slow_views (rules c) workers) a n
  pub reasons : HasReasons (rules c) (views_of (rules c) workers) (slow_views (rules c) workers)
  pub bands : (l : ℕ) → l < link_count c → HasMerged (rules c) (views_of (rules c) workers) (went_at workers) l
  pub totals : HasTotals c (views_of (rules c) workers) (slow_views (rules c) workers) (went_at workers) (totals_of (shares_of b))
  -- what each source told is what its receiver numbered, and each sink shows what it was handed
  pub sources : (a : ℕ) (r : ReceiverBack) → slice_get b.receivers a ≡ Some r → TellsOf a (interface_at c a) r.told (told (views_of (rules c) workers) a)
  pub sinks : (l : ℕ) (f : ForwarderBack T) → slice_get b.forwarders l ≡ Some f → (ts : List T) → f.told ≡ Some ts → ts ≡ map shows (went_at workers l)
  -- its failures rose by its refusals; its share counts what it took
  pub failed : (l : ℕ) (f : ForwarderBack T) → slice_get b.forwarders l ≡ Some f → f.failed ≡ f.began + refusals_of (went_at workers l)
  pub sent : (l : ℕ) (f : ForwarderBack T) → slice_get b.forwarders l ≡ Some f → forwarded f.share ≡ count (λ (h : Handed kinds). h.took) (went_at workers l)
  -- a receiver dropped for want of a buffer as often as it looked for one in vain
  pub looks : (a : ℕ) (r : ReceiverBack) → slice_get b.receivers a ≡ Some r → lacks ((views_of (rules c) workers).received a) ≡ length r.looks

abbrev pub RunsAsTold : Type 0 → Type 0
RunsAsTold T = (shows : Handed kinds → T) (c : Config) (b : Returned T) (closed : ℕ → Bool) → HaveReturned shows c b closed → WorkersHaveRun shows c b closed
