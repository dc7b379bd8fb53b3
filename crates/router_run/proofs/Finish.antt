-- What a run came to, of its parts.
use Rattle.std.proofs.Common.{◌≡◌, ℕ, ◌+◌, ◌*◌, List, ◌∷◌, ◌++◌, map, length, Option, sym, ◌∙◌, ap, subst, arith, length-append}
use Rattle.std.proofs.lemmas.List.{length-map}
use Rattle.std.proofs.lemmas.Simd.{map-map}
use Rattle.packet_ledger.specs.Share.{Held, forwarded}
use Rattle.order_laws.specs.Item.{Arrival, Outgoing}
use Rattle.order_laws.specs.Settled.{SlowPathRequest}
use Rattle.process_packet.specs.declared.totals.Totals.{Totals}
use Rattle.ruled_pipe.specs.Consumer.{Taker}
use Rattle.worker_order.specs.Heard.{Heard}
use Rattle.worker_order.specs.Returned.{ForwarderBack, ProcessorBack, ReceiverBack, RunsAsTold, shares_of}
use Rattle.worker_order.specs.Totals.{totals_of}
use Rattle.router_rules.specs.Rules.{kinds}
use Rattle.worker_forwarder.specs.Forwarding.{Forwarding}
use Rattle.worker_receiver.specs.Receiving.{EndsQuietly, Receiving}
use Rattle.worker_processor.specs.Working.{Working}
use Rattle.worker_parts.specs.Told.{Told, told_of}
use Rattle.run_ends.specs.Settled.{AreSettled, IsDone}
use Rattle.run_pipes.specs.Piping.{Piping}
use Rattle.run_report.specs.Crew.{Crew, packet_rows, request_row, egress_rows}
use Rattle.run_report.specs.Parting.{HasEnds, HasKept, IsParted, KeptReceiver, shares_in}
use Rattle.router_run.specs.Back.{HasSettled, back_of, forwarder_back, processor_back, receiver_back, IsBack}
use Rattle.router_run.specs.Run.{RouterHasRun, Run}
use Rattle.router_run.specs.Wiring.{IsCrew}
use Rattle.router_run.proofs.Came.{crews_return}
use Rattle.router_run.proofs.Crews.{CameReceiver, receivers_came}
use Rattle.router_run.proofs.Lists.{all_known, each_of}
use Rattle.router_run.proofs.Promised.{promised}

module _ {S G K : Type 0} where
  -- the pipes were settled with the consumers of the workers
  pub settled : (w : Crew S G K) (p : Piping) (packets : List (Taker (Arrival kinds))) (requests : Taker (SlowPathRequest kinds)) (egress_packets : List (Taker (Outgoing kinds))) → IsParted w packets requests egress_packets
      → AreSettled 0 (packet_rows w) p.packets packets × IsDone p.requests (request_row w) requests × AreSettled 0 (egress_rows w) p.egress_packets egress_packets → HasSettled p w
  settled w p packets requests egress_packets parted done = record {
    packets = subst (λ (ts : List (Taker (Arrival kinds))). AreSettled 0 (packet_rows w) p.packets ts) parted.packet_are done.0;
    requests = subst (λ (t : Taker (SlowPathRequest kinds)). IsDone p.requests (request_row w) t) parted.request_is done.1;
    egress_packets = subst (λ (ts : List (Taker (Outgoing kinds))). AreSettled 0 (egress_rows w) p.egress_packets ts) parted.egress_are done.2;
  }

  -- as many shares as workers
  pub shares_count : (p : Piping) (links processors : ℕ) (w : Crew S G K) → HasEnds p links processors w → length (shares_in w) ≡ 2 * links + processors + 1
  shares_count p links processors w sized =
      let rs = map (λ (r : Receiving S). r.side.share) w.receivers in
      let ps = map (λ (q : Working G). q.side.share) w.processors in
      let fs = map (λ (f : Forwarding K). f.side.share) w.forwarders in
      let a = length-append rs (ps ++ w.slow.side.share ∷ fs) in
      let b = length-append ps (w.slow.side.share ∷ fs) in
      let i = length-map w.receivers (λ (r : Receiving S). r.side.share) in
      let j = length-map w.processors (λ (q : Working G). q.side.share) in
      let l = length-map w.forwarders (λ (f : Forwarding K). f.side.share) in
      let n = sized.receivers.count in let m = sized.workers.count in let q = sized.forwarders in
      omega arith

  module _ (told : S → Option (List Heard)) (shown : K → Option (List Told)) (failed : K → ℕ) where
    shares_same : (w : Crew S G K) → shares_in w ≡ shares_of (back_of told shown failed w)
    shares_same w =
        let b = back_of told shown failed w in
        let s = w.slow.side.share in
        let rs = map-map (λ (r : ReceiverBack). r.share) (receiver_back told) w.receivers in
        let ps = map-map (λ (p : ProcessorBack). p.share) processor_back w.processors in
        let fs = map-map (λ (f : ForwarderBack Told). f.share) (forwarder_back shown failed) w.forwarders in
        ap (λ (xs : List Held). xs ++ (map (λ (p : Working G). p.side.share) w.processors ++ s ∷ map (λ (f : Forwarding K). f.side.share) w.forwarders)) (sym rs)
        ∙ (ap (λ (xs : List Held). map (λ (r : ReceiverBack). r.share) b.receivers ++ (xs ++ s ∷ map (λ (f : Forwarding K). f.side.share) w.forwarders)) (sym ps)
        ∙ ap (λ (xs : List Held). map (λ (r : ReceiverBack). r.share) b.receivers ++ (map (λ (p : ProcessorBack). p.share) b.processors ++ s ∷ xs)) (sym fs))

    -- all together
    pub has_run : (same_source : S → S → Type 0) (same_sink : K → K → Type 0) → RunsAsTold Told → (r : Run S G K) (w : Crew S G K) (totals : Totals) (shares : List Held) (sent : List ℕ) (sources : List S) (sinks : List K)
        → IsCrew r.config r.pipes r.crew → IsBack same_source same_sink r.crew w → HasKept told shown failed w → HasSettled r.pipes w
        → shares ≡ shares_in w → totals ≡ totals_of shares → sent ≡ map (λ (f : Forwarding K). forwarded f.side.share) w.forwarders → sources ≡ map (λ (x : Receiving S). x.source) w.receivers → sinks ≡ map (λ (f : Forwarding K). f.side.sink) w.forwarders
        → RouterHasRun told shown failed same_source same_sink r totals sent sources sinks
    has_run same_source same_sink runs r w totals shares sent sources sinks is back kept set same counts sends reads writes =
        let ran = runs told_of r.config (back_of told shown failed w) _ (crews_return told shown failed same_source same_sink r.config r.pipes r.crew w is back kept set) in
        let receivers = all_known _ _ 0 w.receivers (receivers_came same_source same_sink r.config r.pipes r.crew w is back).each kept.receivers in
        let totals_are = counts ∙ ap totals_of (same ∙ shares_same w) in record {
          promises = promised told shown failed r.config w r.crew.shutters totals sent sources sinks ran back.shutters totals_are sends reads writes;
          crew = w;
          back = back;
          settled = set;
          asked = each_of (λ n (x : Receiving S). CameReceiver same_source r.config r.pipes n x × KeptReceiver told x) (λ x. EndsQuietly x.number (told x.source)) (λ n x known. known.1.2 known.0.2.1.ended) 0 w.receivers receivers;
          ran = ran;
          totals_are = totals_are;
          sent_are = sends;
          sources_are = reads;
          sinks_are = writes;
        }
