-- What is promised of a run, by what its workers came back with.
use Rattle.std.proofs.Common.{◌≡◌, ℕ, zero, suc, List, [], ◌∷◌, map, Option, slice_get, refl, sym, ◌∙◌, ap, subst}
use Rattle.packet_ledger.specs.Share.{forwarded}
use Rattle.process_packet.specs.declared.config.Config.{Config}
use Rattle.process_packet.specs.declared.totals.Totals.{Totals}
use Rattle.worker_order.specs.Heard.{Heard, TellsOf}
use Rattle.worker_order.specs.Returned as returned
use Rattle.worker_order.specs.Totals.{totals_of}
use Rattle.router_rules.specs.Links.{interface_at}
use Rattle.worker_forwarder.specs.Forwarding.{Forwarding}
use Rattle.worker_receiver.specs.Receiving.{Receiving}
use Rattle.run_promises.specs.Promises.{KeepsPromises}
use Rattle.run_promises.proofs.Promises.{closed_as, promises_are_kept}
use Rattle.worker_laws.proofs.Composed.{map_get}
use Rattle.worker_parts.specs.Told.{Told, told_of}
use Rattle.run_ends.specs.Shutting.{EachEnds, Shutting, closed_at}
use Rattle.run_report.specs.Crew.{Crew}
use Rattle.router_run.specs.Back.{back_of, forwarder_back, receiver_back}
use Rattle.router_run.specs.Promises.{KeepsItsPromises}
use Rattle.router_run.proofs.Lists.{found_at}

-- end marks close nothing
same_closed : {T : Type 0} (old new : List (Shutting T)) → EachEnds old new → (j : ℕ) → closed_at new j ≡ closed_at old j
same_closed [] [] e j = refl
same_closed [] (t ∷ ts) e j = absurd e
same_closed (s ∷ ss) [] e j = absurd e
same_closed (s ∷ ss) (t ∷ ts) e zero = e.0.closed
same_closed (s ∷ ss) (t ∷ ts) e (suc j) = same_closed ss ts e.1 j

module _ {S G K : Type 0} (told : S → Option (List Heard)) (shown : K → Option (List Told)) (failed : K → ℕ) where
  pub promised : (c : Config) (w : Crew S G K) (old : List (Shutting _)) (totals : Totals) (sent : List ℕ) (sources : List S) (sinks : List K)
      → returned.WorkersHaveRun told_of c (back_of told shown failed w) (closed_at w.shutters) → EachEnds old w.shutters
      → totals ≡ totals_of (returned.shares_of (back_of told shown failed w)) → sent ≡ map (λ (f : Forwarding K). forwarded f.side.share) w.forwarders
      → sources ≡ map (λ (x : Receiving S). x.source) w.receivers → sinks ≡ map (λ (f : Forwarding K). f.side.sink) w.forwarders
      → KeepsItsPromises told shown c (closed_at old) totals sent sources sinks
  promised c w old totals sent sources sinks ran ends counts sends reads writes =
      let is = promises_are_kept told_of c (back_of told shown failed w) (closed_at w.shutters) ran in
      record {
        received = is.received;
        handed = is.handed;
        kept = closed_as c (closed_at w.shutters) (closed_at old) (same_closed old w.shutters ends) is.received is.handed totals (subst (λ (t : Totals). KeepsPromises c (closed_at w.shutters) is.received is.handed t) (sym counts) is.promises);
        recorded = λ n s at.
            let x = found_at (λ (r : Receiving S). r.source) w.receivers n s (ap (λ (xs : List S). slice_get xs n) (sym reads) ∙ at) in
            subst (λ (s : S). TellsOf n (interface_at c n) (told s) (is.received n)) x.1.1 (is.sources n (receiver_back told x.0) (map_get (receiver_back told) w.receivers n x.0 x.1.0));
        shows = λ l k at ts tells.
            let x = found_at (λ (f : Forwarding K). f.side.sink) w.forwarders l k (ap (λ (xs : List K). slice_get xs l) (sym writes) ∙ at) in
            is.sinks l (forwarder_back shown failed x.0) (map_get (forwarder_back shown failed) w.forwarders l x.0 x.1.0) ts (ap shown x.1.1 ∙ tells);
        sent_are = λ l n at.
            let x = found_at (λ (f : Forwarding K). forwarded f.side.share) w.forwarders l n (ap (λ (xs : List ℕ). slice_get xs l) (sym sends) ∙ at) in
            sym x.1.1 ∙ is.sent l (forwarder_back shown failed x.0) (map_get (forwarder_back shown failed) w.forwarders l x.0 x.1.0);
      }
