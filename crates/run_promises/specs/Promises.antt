-- A run that has ended, to be read aloud: what its receivers numbered, what its sinks were handed, what it dropped, and what it
-- reports.
use Rattle.std.specs.Prelude.{◌≡◌, ◌⊎◌, ◌<◌, ◌≤◌, ◌+◌, ◌*◌, ◌&&◌, ℕ, Bool, true, List, length, map, None, Some, slice_get}
use Rattle.std.specs.List.{flat_map}
use Rattle.order_laws.specs.Counted.{sum_to}
use Rattle.order_laws.specs.Counts.{count, total}
use Rattle.order_laws.specs.Deeds.{Each}
use Rattle.order_laws.specs.Expected.{Departure, Flow, expected, is_of}
use Rattle.order_laws.specs.Less.{less}
use Rattle.order_laws.specs.Item.{Arrival, Arrived, Out, is_one}
use Rattle.order_laws.specs.Departures.{numbers_of, sends_of}
use Rattle.order_laws.specs.Rules.{Asks, Drops, Replies, Sends, Withholds}
use Rattle.order_laws.specs.Settled.{AreNumbered, In}
use Rattle.order_laws.specs.Cause.{Cause}
use Rattle.order_laws.specs.Fate.{Fate}
use Rattle.packet_ledger.specs.Share.{forwarded}
use Rattle.process_packet.specs.Totals.{dropped_for}
use Rattle.process_packet.specs.declared.cause.Cause.{Cause as RouterCause}
use Rattle.process_packet.specs.declared.config.Config.{Config}
use Rattle.process_packet.specs.declared.decision.Problem.{Problem}
use Rattle.process_packet.specs.declared.totals.Totals.{Totals}
use Rattle.router_rules.specs.Causes.{booked_as}
use Rattle.router_rules.specs.Datagram.{Parcel}
use Rattle.router_rules.specs.Links.{interface_at, link_count}
use Rattle.router_rules.specs.Rules.{kinds, rules}
use Rattle.worker_laws.specs.Causes.{was_replied, was_sent}
use Rattle.worker_laws.specs.Forwards.{Handed, handed_items}
use Rattle.worker_order.specs.Heard.{TellsOf}
use Rattle.worker_order.specs.Returned.{ForwarderBack, WorkersHaveRun, ReceiverBack, Returned, shares_of}
use Rattle.worker_order.specs.Totals.{same_cause, totals_of}

-- ---- what left, and what didn't

-- of what a sink was handed, the packets of a flow that came by link a; answers are none of them
abbrev pub departures : Config → (a : ℕ) → Flow kinds → (received : List (Arrival kinds)) → (handed : List (Handed kinds)) → List (Departure kinds)
departures c a f received handed = flat_map (λ o. sends_of a (numbers_of (is_of (rules c) f) (map (λ x. Arrived x) received)) (Out o)) (handed_items handed)

-- what the sequential router sends of them on link l
abbrev pub sent_in_sequence : Config → (l : ℕ) → Flow kinds → (received : List (Arrival kinds)) → List (Departure kinds)
sent_in_sequence c l f received = expected (rules c) (is_of (rules c) f) l (map (λ x. Arrived x) received)

-- how often a sink took the packet number n of link a, or the answer to it
abbrev pub taken_of : (a n : ℕ) → List (Handed kinds) → ℕ
taken_of a n handed = count (λ (h : Handed kinds). h.took && is_one a n h.item.arrived h.item.number) handed

-- how often it was dropped
abbrev pub dropped_of : (a n : ℕ) → List (Fate kinds) → ℕ
dropped_of a n drops = count (λ (d : Fate kinds). is_one a n d.link d.number) drops

-- and that is once, in all
abbrev pub places_of : ℕ → (handed : ℕ → List (Handed kinds)) → List (Fate kinds) → (a n : ℕ) → ℕ
places_of links handed drops a n = sum_to links (λ l. taken_of a n (handed l)) + dropped_of a n drops

-- how many were dropped for a cause
abbrev pub drops_for : RouterCause → List (Fate kinds) → ℕ
drops_for why drops = count (λ (d : Fate kinds). same_cause (booked_as d.cause) why) drops

-- ---- why a packet was dropped

-- the packet, or the answer to it, leaves on link l
abbrev pub LeavesOn : Config → ℕ → Arrival kinds → Type 0
LeavesOn c l x =
    ((y : Parcel) × ((rules c).decide x ≡ Sends l y))
    ⊎ ((p : Problem) × (y : Parcel) × ((rules c).decide x ≡ Asks p) × ((rules c).reply x p ≡ Replies l y))

-- The inspection, the decision and the answer drop for reasons of their own. All else is dropped only where these let it through:
-- at a processor's full pipe, or for want of a buffer; at the slow path's full pipe; at a full pipe of the link on which it
-- leaves; there after the closing mark of one of its bands; by that link's sink. Nothing is for want of memory.
abbrev pub IsReason : Config → (closed : ℕ → Bool) → Arrival kinds → Cause kinds → Type 0
IsReason c closed x (Cause.Ruled why) = ((rules c).decide x ≡ Drops why) ⊎ ((p : Problem) × ((rules c).decide x ≡ Asks p) × ((rules c).reply x p ≡ Withholds why))
IsReason c closed x Cause.ProcessorFull = (rules c).inspect x ≡ None
IsReason c closed x Cause.NoBuffer = (rules c).inspect x ≡ None
IsReason c closed x Cause.AnswerFull = (p : Problem) × ((rules c).decide x ≡ Asks p)
IsReason c closed x Cause.LinkFull = (l : ℕ) × LeavesOn c l x
IsReason c closed x Cause.Closed = (l : ℕ) × LeavesOn c l x × ((closed (2 * l) ≡ true) ⊎ (closed (2 * l + 1) ≡ true))
IsReason c closed x Cause.SendFailed = (l : ℕ) × LeavesOn c l x
IsReason c closed x Cause.NoMemory = ⊥

-- it was received, and there is a reason
pub record HasReason (c : Config) (closed : ℕ → Bool) (received : ℕ → List (Arrival kinds)) (d : Fate kinds) : Type 0 where
  pub packet : Arrival kinds
  pub there : In packet (received packet.link)
  pub link : packet.link ≡ d.link
  pub number : packet.number ≡ d.number
  pub reason : IsReason c closed packet d.cause

-- ---- the run

-- Of a run with this configuration, of which some links' pipes were closed, link l's at 2 * l and its high band's at 2 * l + 1:
-- what was received on each link, what each link's sink was handed, in order, and the totals that are reported.
pub record KeepsPromises (c : Config) (closed : ℕ → Bool) (received : ℕ → List (Arrival kinds)) (handed : ℕ → List (Handed kinds)) (t : Totals) : Type 0 where
  pub drops : List (Fate kinds)
  -- Order: of each arriving link, flow and leaving link the sink was handed what the sequential router sends, in order and byte
  -- for byte, less what was dropped before.
  pub order : (a l : ℕ) (f : Flow kinds) → a < link_count c → l < link_count c → departures c a f (received a) (handed l) ≡ less drops a (sent_in_sequence c l f (received a))
  -- Every packet is accounted for: a link's packets are numbered from 1 on, each was taken by a sink or dropped, and that once.
  -- Nothing else was. Each drop has its reason.
  pub numbered : (a : ℕ) → a < link_count c → AreNumbered a 1 (received a)
  pub once : (a n : ℕ) → a < link_count c → 1 ≤ n → n ≤ length (received a) → places_of (link_count c) handed drops a n ≡ 1
  pub others : (a n : ℕ) → ((a < link_count c) × (1 ≤ n) × (n ≤ length (received a)) → ⊥) → places_of (link_count c) handed drops a n ≡ 0
  pub reasons : Each (HasReason c closed received) drops
  -- The report is exact, cause by cause.
  pub received_are : t.received ≡ sum_to (link_count c) (λ a. length (received a))
  pub sent_are : t.sent ≡ sum_to (link_count c) (λ l. count was_sent (handed l))
  pub answered_are : t.answered ≡ sum_to (link_count c) (λ l. count was_replied (handed l))
  pub dropped_are : (why : RouterCause) → dropped_for t why ≡ drops_for why drops
  pub balance : t.received ≡ t.sent + t.answered + total (λ n. n) t.dropped

-- The same of workers as they came back: what their sources recorded was received, and their sinks show what they were handed.
pub record IsPromised {T : Type 0} (shows : Handed kinds → T) (c : Config) (b : Returned T) (closed : ℕ → Bool) : Type 0 where
  pub received : ℕ → List (Arrival kinds)
  pub handed : ℕ → List (Handed kinds)
  pub promises : KeepsPromises c closed received handed (totals_of (shares_of b))
  pub sources : (a : ℕ) (r : ReceiverBack) → slice_get b.receivers a ≡ Some r → TellsOf a (interface_at c a) r.told (received a)
  pub sinks : (l : ℕ) (f : ForwarderBack T) → slice_get b.forwarders l ≡ Some f → (ts : List T) → f.told ≡ Some ts → ts ≡ map shows (handed l)
  pub sent : (l : ℕ) (f : ForwarderBack T) → slice_get b.forwarders l ≡ Some f → forwarded f.share ≡ count (λ (h : Handed kinds). h.took) (handed l)

abbrev pub PromisesAreKept : Type 0 → Type 0
PromisesAreKept T = (shows : Handed kinds → T) (c : Config) (b : Returned T) (closed : ℕ → Bool) → WorkersHaveRun shows c b closed → IsPromised shows c b closed
