-- Workers that came back, and what is left of them.
use Rattle.std.specs.Prelude.{◌≡◌, ◌≤◌, ◌+◌, ◌*◌, ℕ, true, List, [], ◌∷◌, map, Option, length, ◌++◌, vec_capacity}
use Rattle.std.proofs.Common.{refl, sym, subst, append-nil}
use Rattle.order_laws.specs.Deeds.{Each}
use Rattle.order_laws.specs.Settled.{SlowPathRequest}
use Rattle.packet_ledger.specs.Share.{Held, forwarded}
use Rattle.ruled_pipe.specs.Consumer.{Taker}
use Rattle.ruled_pipe.specs.Pipe.{IsEndOf}
use Rattle.router_rules.specs.Rules.{kinds}
use Rattle.worker_order.specs.Heard.{Heard}
use Rattle.worker_order.specs.Returned.{AllAt}
use Rattle.worker_order.specs.Keeping.{IsReceiving, IsWorking, IsAnswering, IsForwarding}
use Rattle.worker_processor.specs.Answering.{Answering}
use Rattle.worker_forwarder.specs.Forwarding.{Forwarding}
use Rattle.worker_receiver.specs.Receiving.{EndsQuietly, Receiving}
use Rattle.worker_processor.specs.Working.{Working}
use Rattle.worker_parts.specs.Outlet.{IsMarked}
use Rattle.worker_parts.specs.Outlets.{senders}
use Rattle.worker_parts.specs.Told.{Told, told_of}
use Rattle.run_pipes.specs.Handing.{AreMarked}
use Rattle.run_pipes.specs.Piping.{Piping}
use Rattle.run_pipes.specs.Pipes.{HaveAllBack, LinkRows, ReceiverRows, RequestRow}
use Rattle.run_pipes.specs.Rest.{IsRest}
use Rattle.run_pipes.specs.declared.pipes.Pipes.{Pipes}
use Rattle.run_ends.specs.Rows.{AreEndsOf}
use Rattle.run_ends.specs.Shutting.{AreMarking, shutter_ends}
use Rattle.run_report.specs.Crew.{Crew, packet_takers, takers_of}
use Rattle.run_report.specs.declared.parting.ForwarderParts.{ForwarderParts}
use Rattle.run_report.specs.declared.parting.ProcessorParts.{ProcessorParts}
use Rattle.run_report.specs.declared.parting.ReceiverParts.{ReceiverParts}
use Rattle.order_laws.specs.Item.{Outgoing, Arrival}

-- ---- each worker kept its law, closed no pipe, and pushed an end mark only last; a receiver that ended did so quietly

abbrev pub KeptReceiver : {S : Type 0} → (S → Option (List Heard)) → Receiving S → Type 0
KeptReceiver told r =
    IsReceiving r.side.config r.side.link r.side.interface r.number (told r.source) r.side.stock.free.looks (senders r.side.processors) r.side.share
    × AreMarked r.side.processors × (r.ended ≡ true → EndsQuietly r.number (told r.source))

abbrev pub KeptProcessor : {G : Type 0} → Working G → Type 0
KeptProcessor w = IsWorking w.side.config w.taker w.hand (senders w.side.links) w.slow.sender w.side.share × AreMarked w.side.links × IsMarked w.slow.sender w.slow.ended

abbrev pub KeptSlowPath : Answering → Type 0
KeptSlowPath a = IsAnswering a.side.config a.taker (senders a.side.links) a.side.share × AreMarked a.side.links

abbrev pub KeptForwarder : {K : Type 0} → (K → Option (List Told)) → (K → ℕ) → Forwarding K → Type 0
KeptForwarder shown failed f = IsForwarding told_of f.low.taker f.high.taker f.low.shut f.high.shut (shown f.side.sink) f.began (failed f.side.sink) f.side.share

-- All did so; the controller's ends pushed marks alone.
pub record HasKept {S G K : Type 0} (told : S → Option (List Heard)) (shown : K → Option (List Told)) (failed : K → ℕ) (w : Crew S G K) : Type 0 where
  pub receivers : Each (λ (r : Receiving S). KeptReceiver told r) w.receivers
  pub processors : Each (λ (q : Working G). KeptProcessor q) w.processors
  pub slow : KeptSlowPath w.slow
  pub forwarders : Each (λ (f : Forwarding K). KeptForwarder shown failed f) w.forwarders
  pub shutters : AreMarking w.shutters

-- ---- all together

-- the ends of the receiver, and of the processor, of a number
abbrev pub HasReceiverEnds : {S : Type 0} → Piping → ℕ → Receiving S → Type 0
HasReceiverEnds p a r = AreEndsOf a p.packets (senders r.side.processors)

abbrev pub HasProcessorEnds : {G : Type 0} → Piping → ℕ → Working G → Type 0
HasProcessorEnds p i q = AreEndsOf i p.egress_packets (senders q.side.links) × IsEndOf p.requests i q.slow.sender

-- How many workers of each kind there are, and that each has its ends of these pipes.
pub record HasEnds {S G K : Type 0} (p : Piping) (links processors : ℕ) (w : Crew S G K) : Type 0 where
  pub receivers : IsRest (HasReceiverEnds p) 0 links w.receivers
  pub workers : IsRest (HasProcessorEnds p) 0 processors w.processors
  pub slow : AreEndsOf processors p.egress_packets (senders w.slow.side.links)
  pub forwarders : length w.forwarders ≡ links
  pub shutters : AreEndsOf (processors + 1) p.egress_packets (shutter_ends w.shutters)

-- the consumers of workers that were taken apart
pub record IsParted {S G K : Type 0} (w : Crew S G K) (packets : List (Taker (Arrival kinds))) (requests : Taker (SlowPathRequest kinds)) (egress_packets : List (Taker (Outgoing kinds))) : Type 0 where
  pub packet_are : packets ≡ packet_takers w
  pub request_is : requests ≡ w.slow.taker
  pub egress_are : egress_packets ≡ takers_of w.forwarders

-- the shares in the order in which the book closes them
abbrev pub shares_in : {S G K : Type 0} → Crew S G K → List Held
shares_in w = map (λ (r : Receiving _). r.side.share) w.receivers ++ (map (λ (p : Working _). p.side.share) w.processors ++ (w.slow.side.share ∷ map (λ (f : Forwarding _). f.side.share) w.forwarders))

-- ---- workers of one kind: that they come next, with room for what is left of them, and what they gave

module _ {N S : Type 0} where
  pub record ReceiversFit (rs : List (Receiving S)) (k : Pipes N) (p : ReceiverParts N S) : Type 0 where
    pub piping : Piping
    pub rows : ReceiverRows
    pub back : HaveAllBack rows [] [] piping k
    pub ends : AllAt (HasReceiverEnds piping) (length rows) rs
    pub sources : length p.sources.items + length rs ≤ vec_capacity p.sources
    pub shares : length p.shares.items + length rs ≤ vec_capacity p.shares

  pub record ReceiversGave (told : S → Option (List Heard)) (rs : List (Receiving S)) (k : Pipes N) (p : ReceiverParts N S) (l : Pipes N) (q : ReceiverParts N S) : Type 0 where
    pub back : (o : Piping) (rows : ReceiverRows) → HaveAllBack rows [] [] o k → HaveAllBack (rows ++ map (λ (r : Receiving S). senders r.side.processors) rs) [] [] o l
    pub sources : q.sources.items ≡ p.sources.items ++ map (λ (r : Receiving S). r.source) rs
    pub shares : q.shares.items ≡ p.shares.items ++ map (λ (r : Receiving S). r.side.share) rs
    pub room : vec_capacity q.shares ≡ vec_capacity p.shares
    pub kept : Each (λ (r : Receiving S). KeptReceiver told r) rs

  pub no_receivers : (told : S → Option (List Heard)) (k : Pipes N) (p : ReceiverParts N S) → ReceiversGave told [] k p k p
  no_receivers told k p = record {
    back = λ o rows was. subst (λ (l : ReceiverRows). HaveAllBack l [] [] o k) (sym (append-nil rows)) was;
    sources = sym (append-nil p.sources.items);
    shares = sym (append-nil p.shares.items);
    room = refl;
    kept = tt;
  }

module _ {N G : Type 0} where
  pub record ProcessorsFit (ws : List (Working G)) (k : Pipes N) (p : ProcessorParts N) : Type 0 where
    pub piping : Piping
    pub rows : ReceiverRows
    pub requests : RequestRow
    pub links : LinkRows
    pub long : length requests ≡ length links
    pub back : HaveAllBack rows requests links piping k
    pub ends : AllAt (HasProcessorEnds piping) (length links) ws
    pub takers : length p.takers.items + length ws ≤ vec_capacity p.takers
    pub shares : length p.shares.items + length ws ≤ vec_capacity p.shares

  pub record ProcessorsGave (ws : List (Working G)) (k : Pipes N) (p : ProcessorParts N) (l : Pipes N) (q : ProcessorParts N) : Type 0 where
    pub back : (o : Piping) (rows : ReceiverRows) (requests : RequestRow) (links : LinkRows) → HaveAllBack rows requests links o k
        → HaveAllBack rows (requests ++ map (λ (w : Working G). w.slow.sender) ws) (links ++ map (λ (w : Working G). senders w.side.links) ws) o l
    pub takers : q.takers.items ≡ p.takers.items ++ map (λ (w : Working G). w.taker) ws
    pub shares : q.shares.items ≡ p.shares.items ++ map (λ (w : Working G). w.side.share) ws
    pub room : vec_capacity q.shares ≡ vec_capacity p.shares
    pub kept : Each (λ (w : Working G). KeptProcessor w) ws

  pub no_processors : (k : Pipes N) (p : ProcessorParts N) → ProcessorsGave [] k p k p
  no_processors k p = record {
    back = λ o rows requests links was. subst (λ (m : RequestRow). HaveAllBack rows m (links ++ []) o k) (sym (append-nil requests)) (subst (λ (l : LinkRows). HaveAllBack rows requests l o k) (sym (append-nil links)) was);
    takers = sym (append-nil p.takers.items);
    shares = sym (append-nil p.shares.items);
    room = refl;
    kept = tt;
  }

module _ {N K : Type 0} where
  pub record ForwardersFit (fs : List (Forwarding K)) (p : ForwarderParts N K) : Type 0 where
    pub takers : length p.takers.items + 2 * length fs ≤ vec_capacity p.takers
    pub sinks : length p.sinks.items + length fs ≤ vec_capacity p.sinks
    pub sent : length p.sent.items + length fs ≤ vec_capacity p.sent
    pub shares : length p.shares.items + length fs ≤ vec_capacity p.shares

  pub record ForwardersGave (shown : K → Option (List Told)) (failed : K → ℕ) (fs : List (Forwarding K)) (k : Pipes N) (p : ForwarderParts N K) (l : Pipes N) (q : ForwarderParts N K) : Type 0 where
    pub back : l ≡ k
    pub takers : q.takers.items ≡ p.takers.items ++ takers_of fs
    pub sinks : q.sinks.items ≡ p.sinks.items ++ map (λ (f : Forwarding K). f.side.sink) fs
    pub sent : q.sent.items ≡ p.sent.items ++ map (λ (f : Forwarding K). forwarded f.side.share) fs
    pub shares : q.shares.items ≡ p.shares.items ++ map (λ (f : Forwarding K). f.side.share) fs
    pub kept : Each (λ (f : Forwarding K). KeptForwarder shown failed f) fs

  pub no_forwarders : (shown : K → Option (List Told)) (failed : K → ℕ) (k : Pipes N) (p : ForwarderParts N K) → ForwardersGave shown failed [] k p k p
  no_forwarders shown failed k p = record {
    back = refl;
    takers = sym (append-nil p.takers.items);
    sinks = sym (append-nil p.sinks.items);
    sent = sym (append-nil p.sent.items);
    shares = sym (append-nil p.shares.items);
    kept = tt;
  }
