-- Crews that came back: the workers have their ends, and their pipes have ended.
use Rattle.std.proofs.Common.{◌≡◌, ℕ, suc, ◌+◌, ◌*◌, ◌≤◌, Bool, true, List, [], ◌∷◌, map, length, Option, Some, slice_get, refl, sym, ◌∙◌, ap, subst, arith, length-append}
use Rattle.std.proofs.lemmas.List.{length-map}
use Rattle.order_laws.specs.Item.{Arrival, Outgoing}
use Rattle.order_laws.specs.Settled.{SlowPathRequest}
use Rattle.process_packet.specs.declared.config.Config.{Config}
use Rattle.ruled_pipe.specs.Producer.{Sender}
use Rattle.ruled_pipe.specs.Consumer.{Taker}
use Rattle.ruled_pipe.specs.Pipe.{Shape, IsEndOf, IsTakerOf}
use Rattle.ruled_pipe.specs.Gathered.{ends_in}
use Rattle.router_rules.specs.Links.{has_two_bands, link_count}
use Rattle.router_rules.specs.Rules.{kinds}
use Rattle.worker_order.specs.Heard.{Heard}
use Rattle.worker_order.specs.Returned.{AllAt}
use Rattle.worker_forwarder.specs.Forwarding.{Forwarding, ForwarderEnded}
use Rattle.worker_receiver.specs.Receiving.{Receiving}
use Rattle.worker_forwarder.specs.SameForwarder.{IsSameForwarder}
use Rattle.worker_processor.specs.SameProcessor.{IsSameProcessor, ProcessorEnded}
use Rattle.worker_receiver.specs.SameReceiver.{IsSameReceiver, ReceiverEnded}
use Rattle.worker_processor.specs.Working.{Working}
use Rattle.worker_parts.proofs.UsedLemmas.{used_high}
use Rattle.worker_parts.specs.Outlet.{Offering}
use Rattle.worker_parts.specs.Outlets.{AreFresh, HaveEnded, are_used, senders}
use Rattle.worker_parts.specs.Same.{AreSameEnds, IsSameTaker}
use Rattle.worker_parts.specs.Told.{Told}
use Rattle.run_ends.specs.Finished.{AreRows, HaveFinished}
use Rattle.run_ends.specs.Rows.{AreEndsOf, AreFor}
use Rattle.run_ends.specs.Settled.{AreFinished, AreOfPipe, AreTaken, HasTaken, IsEnded, IsFinal}
use Rattle.run_ends.specs.Shutting.{AreShutters, EachEnds, Shutting, shutter_ends}
use Rattle.run_ends.proofs.ShuttingLemmas.{shutters_finish}
use Rattle.run_pipes.proofs.HandingLemmas.{finishes}
use Rattle.run_pipes.specs.Handing.{AreMarked, AreSpared}
use Rattle.run_pipes.specs.Piping.{Piping}
use Rattle.run_pipes.specs.Rest.{IsRest}
use Rattle.run_workers.specs.Kits.{IsWorkingThere}
use Rattle.run_report.specs.Crew.{Crew, egress_rows, packet_rows, packet_takers, request_row, takers_of}
use Rattle.run_report.specs.Parting.{HasEnds, HasKept, HasProcessorEnds, HasReceiverEnds, IsParted, KeptProcessor, KeptReceiver}
use Rattle.router_run.specs.Back.{IsBack}
use Rattle.router_run.specs.Wiring.{IsCrew, IsForwardingAt, IsReceivingAt}
use Rattle.router_run.proofs.Ends.{same_end, same_ends, spared}
use Rattle.router_run.proofs.Lists.{CameAs, all_join, all_known, all_map, came, rest_as}

-- ---- rows of ends and lists of consumers, by their numbers

module _ {T : Type 0} where
  rows_of : (uses : ℕ → Bool) (ss : List Shape) (n : ℕ) (rows : List (List (Sender T))) → AllAt (λ m r. AreFinished uses 0 m ss r) n rows → AreRows uses n ss rows
  rows_of uses ss n [] all = tt
  rows_of uses ss n (r ∷ rows) all = let e : n + 1 ≡ suc n = omega arith in (all.0, subst (λ (m : ℕ). AreRows uses m ss rows) e (rows_of uses ss (n + 1) rows all.1))

  of_pipe : (s : Shape) (n : ℕ) (row : List (Sender T)) → AllAt (λ m x. IsEndOf s m x × IsFinal true x.offers) n row → AreOfPipe true n s row
  of_pipe s n [] all = tt
  of_pipe s n (x ∷ row) all = let e : n + 1 ≡ suc n = omega arith in (all.0, subst (λ (m : ℕ). AreOfPipe true m s row) e (of_pipe s (n + 1) row all.1))

  -- the consumer of the pipe of this number has taken all
  abbrev IsTakenAt : (ℕ → Bool) → List Shape → ℕ → Taker T → Type 0
  IsTakenAt uses ss j t = (s : Shape) × (slice_get ss j ≡ Some s) × HasTaken (uses j) s t

  was_taken : (used : Bool) (s : Shape) (a b : Taker T) → IsTakerOf s a → IsSameTaker a b → (used ≡ true → b.producers ≤ ends_in b.taken) → HasTaken used s b
  was_taken used s a b is same all = record { pipe = same.0 ∙ is.0; producers = same.1 ∙ is.1; capacity = same.2 ∙ is.2; taken = λ u. let d = all u in let e = same.1 ∙ is.1 in omega arith }

  -- from pipe k on
  taken_from : (uses : ℕ → Bool) (whole : List Shape) (n k : ℕ) (ss : List Shape) (ts : List (Taker T)) → ((j : ℕ) (s : Shape) → slice_get ss j ≡ Some s → slice_get whole (k + j) ≡ Some s) → AreFor n ss → length ts ≡ length ss → AllAt (IsTakenAt uses whole) k ts → AreTaken uses k n ss ts
  taken_from uses whole n k [] [] at for long all = tt
  taken_from uses whole n k [] (t ∷ ts) at for long all = absurd (omega arith)
  taken_from uses whole n k (s ∷ ss) [] at for long all = absurd (omega arith)
  taken_from uses whole n k (s ∷ ss) (t ∷ ts) at for long all =
      let z : k + 0 ≡ k = omega arith in
      let here : slice_get whole k ≡ Some s = subst (λ (j : ℕ). slice_get whole j ≡ Some s) z (at 0 s refl) in
      let there = all.0.1 in
      let own : all.0.0 ≡ s = cc in
      let next : k + 1 ≡ suc k = omega arith in (
        (for.0, subst (λ (x : Shape). HasTaken (uses k) x t) own all.0.2),
        taken_from uses whole n (suc k) ss ts (λ j x got. let e : k + suc j ≡ suc k + j = omega arith in subst (λ (i : ℕ). slice_get whole i ≡ Some x) e (at (suc j) x got)) for.1 (omega arith) (subst (λ (m : ℕ). AllAt (IsTakenAt uses whole) m ts) next all.1),
      )

  all_taken : (uses : ℕ → Bool) (n m : ℕ) (ss : List Shape) (ts : List (Taker T)) → AreFor n ss → n ≡ m → length ts ≡ length ss → AllAt (IsTakenAt uses ss) 0 ts → AreTaken uses 0 m ss ts
  all_taken uses n m ss ts for same long all =
      subst (λ (k : ℕ). AreTaken uses 0 k ss ts) same (taken_from uses ss n 0 ss ts (λ j s got. let e : j ≡ 0 + j = omega arith in subst (λ (i : ℕ). slice_get ss i ≡ Some s) e got) for long all)

all_picked : {T : Type 0} (es : List (Sender T)) → AreSpared (λ j. true) es
all_picked es j s at off = absurd cc

-- ---- receivers

module _ {S : Type 0} (same_source : S → S → Type 0) (c : Config) (p : Piping) where
  abbrev pub CameReceiver : ℕ → Receiving S → Type 0
  CameReceiver = CameAs (IsReceivingAt c p) (λ (a b : Receiving S). IsSameReceiver same_source a b × ReceiverEnded b)

  pub receiver_ends : (n : ℕ) (r : Receiving S) → CameReceiver n r → HasReceiverEnds p n r
  receiver_ends n r x = same_ends (λ j. true) n p.packets x.0.side.processors r.side.processors x.2.0.processors x.1.0.processors

  receiver_finished : (told : S → Option (List Heard)) (n : ℕ) (r : Receiving S) → CameReceiver n r × KeptReceiver told r → AreFinished (λ j. true) 0 n p.packets (senders r.side.processors)
  receiver_finished told n r x = finishes (λ j. true) n p.packets r.side.processors (receiver_ends n r x.0) x.1.1 x.0.2.1.processors (all_picked (senders r.side.processors))

-- ---- processors and the slow path

module _ (c : Config) (p : Piping) where
  -- a worker's ends of the links' pipes
  links_finished : (i : ℕ) (j k : Config) (xs ys : List (Offering (Outgoing kinds))) → j ≡ c → k ≡ j → AreEndsOf i p.egress_packets (senders ys) → AreFresh xs → AreSameEnds (are_used j) xs ys → HaveEnded (are_used k) ys → AreMarked ys → AreFinished (are_used c) 0 i p.egress_packets (senders ys)
  links_finished i j k xs ys old new ends fresh same ended marked =
      finishes (are_used c) i p.egress_packets ys ends marked
      (subst (λ (d : Config). HaveEnded (are_used d) ys) (new ∙ old) ended)
      (spared (are_used c) xs ys (subst (λ (d : Config). AreSameEnds (are_used d) xs ys) old same) fresh)

module _ {G : Type 0} (c : Config) (p : Piping) where
  abbrev pub CameProcessor : ℕ → Working G → Type 0
  CameProcessor = CameAs (IsWorkingThere c p) (λ (a b : Working G). IsSameProcessor a b × ProcessorEnded b)

  pub processor_ends : (i : ℕ) (w : Working G) → CameProcessor i w → HasProcessorEnds p i w
  processor_ends i w x = (
    same_ends (are_used x.0.side.config) i p.egress_packets x.0.side.links w.side.links x.2.0.links x.1.works.links,
    same_end p.requests i x.0.slow.sender w.slow.sender x.2.0.slow x.1.works.slow,
  )

  processor_taken : (i : ℕ) (w : Working G) → CameProcessor i w → IsTakenAt (λ j. true) p.packets i w.taker
  processor_taken i w x = (x.1.own, x.1.there, was_taken true x.1.own x.0.taker w.taker x.1.works.taker x.2.0.taker (λ u. let d = x.2.1.done in omega arith))

  asked_finished : (i : ℕ) (w : Working G) → CameProcessor i w × KeptProcessor w → IsEndOf p.requests i w.slow.sender × IsFinal true w.slow.sender.offers
  asked_finished i w x = ((processor_ends i w x.0).1, x.1.2.there x.0.2.1.slow)

  processor_finished : (i : ℕ) (w : Working G) → CameProcessor i w × KeptProcessor w → AreFinished (are_used c) 0 i p.egress_packets (senders w.side.links)
  processor_finished i w x = links_finished c p i _ _ x.0.0.side.links w.side.links x.0.1.works.config x.0.2.0.config (processor_ends i w x.0).0 x.0.1.works.fresh x.0.2.0.links x.0.2.1.links x.1.1

-- ---- forwarders

module _ {K : Type 0} (same_sink : K → K → Type 0) (c : Config) (p : Piping) where
  abbrev pub CameForwarder : ℕ → Forwarding K → Type 0
  CameForwarder = CameAs (IsForwardingAt c p) (λ (a b : Forwarding K). IsSameForwarder same_sink a b × ForwarderEnded b)

  forwarder_taken : (l : ℕ) (f : Forwarding K) → CameForwarder l f → IsTakenAt (are_used c) p.egress_packets (2 * l) f.low.taker × IsTakenAt (are_used c) p.egress_packets (2 * l + 1) f.high.taker
  forwarder_taken l f x =
      let config : f.side.config ≡ c = x.2.0.config ∙ x.1.config in
      let link : f.link ≡ l = x.2.0.link ∙ x.1.link in (
        (x.1.first, x.1.first_there, was_taken _ x.1.first x.0.low.taker f.low.taker x.1.low x.2.0.low (λ u. x.2.1.0)),
        (x.1.second, x.1.second_there, was_taken _ x.1.second x.0.high.taker f.high.taker x.1.high x.2.0.high (λ u. x.2.1.1 (ap (λ (d : Config). has_two_bands d f.link) config ∙ (ap (has_two_bands c) link ∙ (sym (used_high (has_two_bands c) l) ∙ u))))),
      )

  forwarders_taken : (l : ℕ) (fs : List (Forwarding K)) → AllAt CameForwarder l fs → AllAt (IsTakenAt (are_used c) p.egress_packets) (2 * l) (takers_of fs)
  forwarders_taken l [] all = tt
  forwarders_taken l (f ∷ fs) all =
      let both = forwarder_taken l f all.0 in
      let next : 2 * (l + 1) ≡ 2 * l + 1 + 1 = omega arith in
      (both.0, (both.1, subst (λ (j : ℕ). AllAt (IsTakenAt (are_used c) p.egress_packets) j (takers_of fs)) next (forwarders_taken (l + 1) fs all.1)))

takers_long : {K : Type 0} (fs : List (Forwarding K)) → length (takers_of fs) ≡ 2 * length fs
takers_long [] = refl
takers_long (f ∷ fs) = let r = takers_long fs in omega arith

-- ---- the controller's ends, which got their end marks

shutters_have : {T : Type 0} (uses : ℕ → Bool) (k n : ℕ) (ss : List Shape) (hs ks : List (Shutting T)) → AreShutters uses k n ss hs → EachEnds hs ks → AreEndsOf n ss (shutter_ends ks)
shutters_have uses k n [] [] [] are ends = tt
shutters_have uses k n [] [] (y ∷ ks) are ends = absurd ends
shutters_have uses k n [] (x ∷ hs) ks are ends = absurd are
shutters_have uses k n (s ∷ ss) [] ks are ends = absurd are
shutters_have uses k n (s ∷ ss) (x ∷ hs) [] are ends = absurd ends
shutters_have uses k n (s ∷ ss) (x ∷ hs) (y ∷ ks) are ends =
    let same = ends.0.same in ((same.1 ∙ are.0.0.0, same.2 ∙ are.0.0.1, same.3 ∙ are.0.0.2, same.4 ∙ are.0.0.3), shutters_have uses (suc k) n ss hs ks are.1 ends.1)

-- ---- all together

module _ {S G K : Type 0} (same_source : S → S → Type 0) (same_sink : K → K → Type 0) (c : Config) (p : Piping) (old new : Crew S G K) (is : IsCrew c p old) (back : IsBack same_source same_sink old new) where
  pub receivers_came : IsRest (CameReceiver same_source c p) 0 (link_count c) new.receivers
  receivers_came = came _ _ _ old.receivers new.receivers is.receivers back.receivers

  pub processors_came : IsRest (CameProcessor c p) 0 c.processors new.processors
  processors_came = came _ _ _ old.processors new.processors is.processors back.processors

  pub forwarders_came : IsRest (CameForwarder same_sink c p) 0 (link_count c) new.forwarders
  forwarders_came = came _ _ _ old.forwarders new.forwarders is.forwarders back.forwarders

  pub has_ends : HasEnds p (link_count c) c.processors new
  has_ends = record {
    receivers = rest_as _ _ (receiver_ends same_source c p) 0 _ new.receivers receivers_came;
    workers = rest_as _ _ (processor_ends c p) 0 _ new.processors processors_came;
    slow = same_ends (are_used old.slow.side.config) c.processors p.egress_packets old.slow.side.links new.slow.side.links back.slow.0.links is.slow.links;
    forwarders = let n = forwarders_came.count in omega arith;
    shutters = shutters_have (are_used c) 0 (c.processors + 1) p.egress_packets old.shutters new.shutters is.shutters back.shutters;
  }

  module _ (told : S → Option (List Heard)) (shown : K → Option (List Told)) (failed : K → ℕ) (kept : HasKept told shown failed new) where
    worked : length new.processors ≡ c.processors
    worked = let n = processors_came.count in omega arith

    packets : HaveFinished p.packets (packet_rows new) (packet_takers new)
    packets =
        let rows = length-map new.receivers (λ (r : Receiving S). senders r.side.processors) in
        let takers = length-map new.processors (λ (w : Working G). w.taker) in
        let count = receivers_came.count in
        record {
          uses = λ j. true;
          theirs = rows_of (λ j. true) p.packets 0 (packet_rows new) (all_map _ _ _ (receiver_finished same_source c p told) 0 new.receivers (all_known _ _ 0 new.receivers receivers_came.each kept.receivers));
          taken = all_taken (λ j. true) (link_count c) (length (packet_rows new)) p.packets (packet_takers new) is.pipes.packets (omega arith) (takers ∙ (worked ∙ sym is.pipes.processors)) (all_map _ _ _ (processor_taken c p) 0 new.processors processors_came.each);
        }

    processors : AllAt (λ i (w : Working G). CameProcessor c p i w × KeptProcessor w) 0 new.processors
    processors = all_known _ _ 0 new.processors processors_came.each kept.processors

    requests : IsEnded true p.requests (request_row new) new.slow.taker
    requests = record {
      count = length-map new.processors (λ (w : Working G). w.slow.sender) ∙ (worked ∙ sym is.pipes.requests);
      ends = of_pipe p.requests 0 (request_row new) (all_map _ _ _ (asked_finished c p) 0 new.processors processors);
      taker = was_taken true p.requests old.slow.taker new.slow.taker is.slow.taker back.slow.0.taker (λ u. let d = back.slow.1.done in omega arith);
    }

    -- the processors' rows, the slow path's and the controller's
    egress_packets : HaveFinished p.egress_packets (egress_rows new) (takers_of new.forwarders)
    egress_packets =
        let links : List (List (Sender (Outgoing kinds))) = map (λ (w : Working G). senders w.side.links) new.processors in
        let last : List (List (Sender (Outgoing kinds))) = senders new.slow.side.links ∷ shutter_ends new.shutters ∷ [] in
        let rows = length-map new.processors (λ (w : Working G). senders w.side.links) in
        let joined = length-append links last in
        let long = takers_long new.forwarders in
        let count = forwarders_came.count in
        let pipes = is.pipes.links in
        let works = worked in
        let e : c.processors ≡ 0 + length links = omega arith in
        let slow = links_finished c p c.processors _ _ old.slow.side.links new.slow.side.links is.slow.config back.slow.0.config has_ends.slow is.slow.fresh back.slow.0.links back.slow.1.links kept.slow.1 in
        let shut = shutters_finish (are_used c) (c.processors + 1) p.egress_packets old.shutters new.shutters is.shutters back.shutters kept.shutters in
        record {
          uses = are_used c;
          theirs = rows_of (are_used c) p.egress_packets 0 (egress_rows new) (all_join _ 0 links last (all_map _ _ _ (processor_finished c p) 0 new.processors processors) (subst (λ (m : ℕ). AllAt (λ n r. AreFinished (are_used c) 0 n p.egress_packets r) m last) e (slow, (shut, tt))));
          taken = all_taken (are_used c) (c.processors + 2) (length (egress_rows new)) p.egress_packets (takers_of new.forwarders) is.pipes.egress_packets (omega arith) (omega arith) (forwarders_taken same_sink c p 0 new.forwarders forwarders_came.each);
        }

    -- their pipes can be settled, each with the consumer that was taken of a worker
    pub crews_end : (ps : List (Taker (Arrival kinds))) (q : Taker (SlowPathRequest kinds)) (es : List (Taker (Outgoing kinds))) → IsParted new ps q es
        → HaveFinished p.packets (packet_rows new) ps × IsEnded true p.requests (request_row new) q × HaveFinished p.egress_packets (egress_rows new) es
    crews_end ps q es parted = (
      subst (λ (ts : List (Taker (Arrival kinds))). HaveFinished p.packets (packet_rows new) ts) (sym parted.packet_are) packets,
      subst (λ (t : Taker (SlowPathRequest kinds)). IsEnded true p.requests (request_row new) t) (sym parted.request_is) requests,
      subst (λ (ts : List (Taker (Outgoing kinds))). HaveFinished p.egress_packets (egress_rows new) ts) (sym parted.egress_are) egress_packets,
    )
