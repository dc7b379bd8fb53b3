-- What the workers that came back give the running theorem.
use Rattle.std.proofs.Common.{◌≡◌, ℕ, zero, suc, ◌+◌, ◌*◌, List, [], ◌∷◌, ◌++◌, map, length, Option, Some, None, slice_get, sym, ◌∙◌, ap, subst, arith}
use Rattle.std.proofs.lemmas.List.{length-map}
use Rattle.std.proofs.lemmas.Simd.{map-map}
use Rattle.order_laws.specs.Item.{Arrival, Outgoing}
use Rattle.order_laws.specs.Settled.{SlowPathRequest}
use Rattle.process_packet.specs.declared.config.Config.{Config}
use Rattle.ruled_pipe.specs.Producer.{Sender}
use Rattle.ruled_pipe.specs.Consumer.{Taker}
use Rattle.worker_laws.specs.Ends.{pushes}
use Rattle.worker_laws.specs.Gathers.{TookAll}
use Rattle.worker_laws.specs.Workers.{IsColumn}
use Rattle.worker_laws.proofs.Composed.{map_get}
use Rattle.router_rules.specs.Links.{interface_at, link_count}
use Rattle.router_rules.specs.Rules.{kinds}
use Rattle.worker_order.specs.Heard.{Heard}
use Rattle.worker_order.specs.Keeping.{IsReceiving, IsWorking, IsAnswering}
use Rattle.worker_order.specs.Returned.{ReceiverBack, ProcessorBack, ForwarderBack, Returned, HaveReturned, IsBackReceiver, IsBackProcessor, IsBackForwarder, link_rows}
use Rattle.worker_forwarder.specs.Forwarding.{Forwarding}
use Rattle.worker_receiver.specs.Receiving.{Receiving}
use Rattle.worker_processor.specs.Working.{Working}
use Rattle.worker_parts.specs.Outlets.{senders}
use Rattle.worker_parts.specs.Told.{Told, told_of}
use Rattle.run_ends.specs.Shutting.{closed_at}
use Rattle.run_ends.proofs.SettledLemmas.{column_of}
use Rattle.run_ends.proofs.ShuttingLemmas.{push_marks}
use Rattle.run_pipes.proofs.HandingLemmas.{never_closed}
use Rattle.run_pipes.specs.Piping.{Piping}
use Rattle.run_report.specs.Crew.{Crew, packet_rows, packet_takers, request_row, egress_rows, takers_of}
use Rattle.run_report.specs.Parting.{HasKept, KeptForwarder, KeptProcessor, KeptReceiver}
use Rattle.router_run.specs.Back.{IsBack, HasSettled, back_of, forwarder_back, processor_back, receiver_back}
use Rattle.router_run.specs.Wiring.{IsCrew}
use Rattle.router_run.proofs.Crews.{CameForwarder, CameProcessor, CameReceiver, forwarders_came, has_ends, processor_ends, processors_came, receiver_ends, receivers_came}
use Rattle.router_run.proofs.Ends.{ends_long}
use Rattle.router_run.proofs.Lists.{all_known, all_map, each_at, found_at}

-- ---- each worker's law, at its number

module _ {S : Type 0} (told : S → Option (List Heard)) (same_source : S → S → Type 0) (c : Config) (p : Piping) (processors : length p.packets ≡ c.processors) where
  receiver_kept : (n : ℕ) (r : Receiving S) → CameReceiver same_source c p n r × KeptReceiver told r → IsBackReceiver c n (receiver_back told r)
  receiver_kept n r x =
      let config : r.side.config ≡ c = x.0.2.0.config ∙ x.0.1.0.config in
      let link : r.side.link ≡ n = x.0.2.0.link ∙ x.0.1.0.link in
      let interface : r.side.interface ≡ interface_at c n = x.0.2.0.interface ∙ x.0.1.1 in
      let I : Config → ℕ → ℕ → Type 0 = λ d l i. IsReceiving d l i r.number (told r.source) r.side.stock.free.looks (senders r.side.processors) r.side.share in (
        subst (λ (d : Config). I d n (interface_at c n)) config (subst (λ (l : ℕ). I r.side.config l (interface_at c n)) link (subst (λ (i : ℕ). I r.side.config r.side.link i) interface x.1.0)),
        ends_long n p.packets (senders r.side.processors) (receiver_ends same_source c p n r x.0) ∙ processors,
      )

module _ {G : Type 0} (c : Config) (p : Piping) (links : length p.egress_packets ≡ 2 * link_count c) where
  processor_kept : (i : ℕ) (w : Working G) → CameProcessor c p i w × KeptProcessor w → IsBackProcessor c i (processor_back w)
  processor_kept i w x =
      let config : w.side.config ≡ c = x.0.2.0.config ∙ x.0.1.works.config in
      let I : Config → Option (Arrival kinds) → Type 0 = λ d h. IsWorking d w.taker h (senders w.side.links) w.slow.sender w.side.share in
      (subst (λ (d : Config). I d None) config (subst (λ (h : Option (Arrival kinds)). I w.side.config h) x.0.2.1.hand x.1.0), ends_long i p.egress_packets (senders w.side.links) (processor_ends c p i w x.0).0 ∙ links)

-- ---- forwarders

module _ {K : Type 0} where
  low_at : (fs : List (Forwarding K)) (l : ℕ) (f : Forwarding K) → slice_get fs l ≡ Some f → slice_get (takers_of fs) (2 * l) ≡ Some f.low.taker
  low_at [] l f at = absurd cc
  low_at (g ∷ fs) zero f at = let e : g ≡ f = cc in ap (λ (x : Forwarding K). Some x.low.taker) e
  low_at (g ∷ fs) (suc l) f at = let e : 2 * suc l ≡ suc (suc (2 * l)) = omega arith in ap (λ (k : ℕ). slice_get (takers_of (g ∷ fs)) k) e ∙ low_at fs l f at

  high_at : (fs : List (Forwarding K)) (l : ℕ) (f : Forwarding K) → slice_get fs l ≡ Some f → slice_get (takers_of fs) (2 * l + 1) ≡ Some f.high.taker
  high_at [] l f at = absurd cc
  high_at (g ∷ fs) zero f at = let e : g ≡ f = cc in ap (λ (x : Forwarding K). Some x.high.taker) e
  high_at (g ∷ fs) (suc l) f at = let e : 2 * suc l + 1 ≡ suc (suc (2 * l + 1)) = omega arith in ap (λ (k : ℕ). slice_get (takers_of (g ∷ fs)) k) e ∙ high_at fs l f at

-- ---- all together

module _ {S G K : Type 0} (told : S → Option (List Heard)) (shown : K → Option (List Told)) (failed : K → ℕ) (same_source : S → S → Type 0) (same_sink : K → K → Type 0) (c : Config) (p : Piping) (old new : Crew S G K)
    (is : IsCrew c p old) (back : IsBack same_source same_sink old new) (kept : HasKept told shown failed new) (settled : HasSettled p new) where
  abbrev b : Returned Told
  b = back_of told shown failed new

  packet_are : packet_rows new ≡ map (λ (r : ReceiverBack). r.senders) b.receivers
  packet_are = sym (map-map (λ (r : ReceiverBack). r.senders) (receiver_back told) new.receivers)

  egress_are : egress_rows new ≡ link_rows b
  egress_are = ap (λ (ls : List (List (Sender (Outgoing kinds)))). ls ++ (b.slow.links ∷ b.controller ∷ [])) (sym (map-map (λ (q : ProcessorBack). q.links) processor_back new.processors))

  request_are : request_row new ≡ map (λ (q : ProcessorBack). q.slow) b.processors
  request_are = sym (map-map (λ (q : ProcessorBack). q.slow) processor_back new.processors)

  column : (j : ℕ) (t : Taker (Outgoing kinds)) → slice_get (takers_of new.forwarders) j ≡ Some t → (row : List (Sender (Outgoing kinds))) × IsColumn j (link_rows b) row × TookAll row (pushes t.taken)
  column j t at = subst (λ (rows : List (List (Sender (Outgoing kinds)))). (row : List (Sender (Outgoing kinds))) × IsColumn j rows row × TookAll row (pushes t.taken)) egress_are
      (column_of (egress_rows new) p.egress_packets (takers_of new.forwarders) settled.egress_packets j t at)

  pub crews_return : HaveReturned told_of c b (closed_at new.shutters)
  crews_return =
      let receivers = receivers_came same_source same_sink c p old new is back in
      let processors = processors_came same_source same_sink c p old new is back in
      let forwarders = forwarders_came same_source same_sink c p old new is back in
      let ends = has_ends same_source same_sink c p old new is back in
      let receiver_count : length new.receivers ≡ link_count c = let n = receivers.count in omega arith in
      let processor_count : length new.processors ≡ c.processors = let n = processors.count in omega arith in
      let forwarder_count : length new.forwarders ≡ link_count c = let n = forwarders.count in omega arith in
      record {
        receivers = all_map _ (IsBackReceiver c) (receiver_back told) (receiver_kept told same_source c p is.pipes.processors) 0 new.receivers (all_known _ _ 0 new.receivers receivers.each kept.receivers);
        processors = all_map _ (IsBackProcessor c) processor_back (processor_kept c p is.pipes.links) 0 new.processors (all_known _ _ 0 new.processors processors.each kept.processors);
        slow = (
          subst (λ (d : Config). IsAnswering d new.slow.taker (senders new.slow.side.links) new.slow.side.share) (back.slow.0.config ∙ is.slow.config) kept.slow.0,
          ends_long c.processors p.egress_packets (senders new.slow.side.links) ends.slow ∙ is.pipes.links,
        );
        forwarders = all_map (λ n (f : Forwarding K). CameForwarder same_sink c p n f × KeptForwarder shown failed f) (IsBackForwarder told_of) (forwarder_back shown failed) (λ n f x. x.1) 0 new.forwarders (all_known _ _ 0 new.forwarders forwarders.each kept.forwarders);
        receiver_count = length-map new.receivers (receiver_back told) ∙ receiver_count;
        processor_count = length-map new.processors processor_back ∙ processor_count;
        forwarder_count = length-map new.forwarders (forwarder_back shown failed) ∙ forwarder_count;
        controller_count = ends_long (c.processors + 1) p.egress_packets b.controller ends.shutters ∙ is.pipes.links;
        packets = λ i q at. let g = found_at processor_back new.processors i q at in
            subst (λ (rows : List (List (Sender (Arrival kinds)))). (row : List (Sender (Arrival kinds))) × IsColumn i rows row × TookAll row (pushes q.taker.taken)) packet_are
            (column_of (packet_rows new) p.packets (packet_takers new) settled.packets i q.taker (map_get (λ (w : Working G). w.taker) new.processors i g.0 g.1.0 ∙ ap (λ (x : ProcessorBack). Some x.taker) g.1.1));
        requests = subst (λ (row : List (Sender (SlowPathRequest kinds))). TookAll row (pushes new.slow.taker.taken)) request_are settled.requests.took;
        low = λ l f at. let g = found_at (forwarder_back shown failed) new.forwarders l f at in
            column (2 * l) f.low (low_at new.forwarders l g.0 g.1.0 ∙ ap (λ (x : ForwarderBack Told). Some x.low) g.1.1);
        high = λ l f at. let g = found_at (forwarder_back shown failed) new.forwarders l f at in
            column (2 * l + 1) f.high (high_at new.forwarders l g.0 g.1.0 ∙ ap (λ (x : ForwarderBack Told). Some x.high) g.1.1);
        marks = λ j s at. (push_marks new.shutters kept.shutters j s at).0;
        closes = λ j s at. (push_marks new.shutters kept.shutters j s at).1;
        processors_close_none = λ i j q s at got. let g = found_at processor_back new.processors i q at in
            never_closed g.0.side.links (each_at _ new.processors kept.processors i g.0 g.1.0).1 j s (ap (λ (x : ProcessorBack). slice_get x.links j) g.1.1 ∙ got);
        slow_closes_none = never_closed new.slow.side.links kept.slow.1;
      }
