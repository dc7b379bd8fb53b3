-- A forwarder stays the same one in each turn and post, and has ended when a turn says so.
use Rattle.std.proofs.Common.{◌≡◌, inl, inr, ℕ, Bool, true, false, List, Option, Some, None, refl, sym, ap, subst, ◌∙◌}
use Rattle.order_laws.specs.Item.{Outgoing}
use Rattle.packet_ledger.specs.Share.{IsPosted}
use Rattle.packet_ledger.proofs.Posting.{posted_place}
use Rattle.worker_laws.specs.Counting.{handed_count}
use Rattle.worker_order.proofs.Shares.{raised_place}
use Rattle.router_rules.specs.Rules.{kinds}
use Rattle.ruled_pipe.specs.Consumer.{Taker}
use Rattle.worker_parts.specs.Told.{Told}
use Rattle.worker_forwarder.specs.declared.band.Taken.{Taken}
use Rattle.worker_forwarder.specs.declared.band.Taken.TheVariants as taken
use Rattle.worker_forwarder.specs.Forwarding.{Band, Delivered, Delivery, ForwarderEnded, Forwarded, Forwarding, Forwards, Met, PassedMet, TookOf, handed, is_two, looks_first, posted}
use Rattle.worker_parts.specs.declared.turn.Turn.{Turn}
use Rattle.worker_parts.specs.declared.turn.Turn.TheVariants.{Did, Quiet, Ended}
use Rattle.worker_parts.specs.Same.{IsSameTaker, taker_self}
use Rattle.worker_forwarder.specs.SameForwarder.{IsSameForwarder, forwarder_self}

looks_same : (two : Bool) (b : Band) → IsSameTaker b.taker (looks_first two b).taker
looks_same true b = (refl, refl, refl)
looks_same false b = (refl, refl, refl)

unlooked : (two : Bool) (b : Band) → two ≡ false → looks_first two b ≡ b
unlooked true b e = absurd cc
unlooked false b e = refl

met_same : (met : Taken (Outgoing kinds)) (b b' : Band) → Met (Some met) b b' → IsSameTaker b.taker b'.taker
met_same taken.Mark b b' is = subst (λ (t : Taker (Outgoing kinds)). IsSameTaker b.taker t) (sym (ap (λ (x : Band). x.taker) is.2)) (refl, refl, refl)
met_same (taken.Packet o) b b' is = subst (λ (t : Taker (Outgoing kinds)). IsSameTaker b.taker t) (sym (ap (λ (x : Band). x.taker) is.1)) (refl, refl, refl)

module _ {K : Type 0} (same : K → K → Type 0) (itself : (k : K) → same k k) where
  pub forwarder_as : (old new : Forwarding K) → new ≡ old → IsSameForwarder same old new
  forwarder_as old new e = subst (λ (f : Forwarding K). IsSameForwarder same old f) (sym e) (forwarder_self same itself old)

  module _ (told : K → Option (List Told)) (failed : K → ℕ) where
    kept : (d d' : Delivery K) → d'.sink ≡ d.sink → same d.sink d'.sink
    kept d d' e = subst (λ (k : K). same d.sink k) (sym e) (itself d.sink)

    delivered_same : (shut : Bool) (o : Outgoing kinds) (d d' : Delivery K) → Delivered told failed same shut o d d' → (d'.config ≡ d.config) × same d.sink d'.sink × (d'.share.place ≡ d.share.place)
    delivered_same true o d d' is = (ap (λ (x : Delivery K). x.config) is.1, kept d d' (ap (λ (x : Delivery K). x.sink) is.1), ap (λ (x : Delivery K). x.share.place) is.1)
    delivered_same false o d d' is = (ap (λ (x : Delivery K). x.config) is.4, is.5, ap (λ (x : Delivery K). x.share.place) is.4 ∙ raised_place (handed_count (handed o is.0)) d.share)

    passed_same : (shut : Bool) (met : Taken (Outgoing kinds)) (d d' : Delivery K) → PassedMet told failed same shut met d d' → (d'.config ≡ d.config) × same d.sink d'.sink × (d'.share.place ≡ d.share.place)
    passed_same shut taken.Mark d d' is = (ap (λ (x : Delivery K). x.config) is, kept d d' (ap (λ (x : Delivery K). x.sink) is), ap (λ (x : Delivery K). x.share.place) is)
    passed_same shut (taken.Packet o) d d' is = delivered_same shut o d d' is

    took_same : (b b' : Band) (d d' : Delivery K) → TookOf told failed same b b' d d' → IsSameTaker b.taker b'.taker × (d'.config ≡ d.config) × same d.sink d'.sink × (d'.share.place ≡ d.share.place)
    took_same b b' d d' is = let p = passed_same b'.shut is.0 d d' is.2 in (met_same is.0 b b' is.1, p.0, p.1, p.2)

    module _ (old new : Forwarding K) where
      forwards_same : (turn : Turn) → Forwards told failed same turn old new → IsSameForwarder same old new
      forwards_same turn (inl is) =
          let e = is.3 in let t = took_same old.high new.high old.side new.side is.2 in record {
            config = t.1;
            sink = t.2;
            place = t.3;
            link = ap (λ (f : Forwarding K). f.link) e;
            began = ap (λ (f : Forwarding K). f.began) e;
            low = subst (λ (x : Taker (Outgoing kinds)). IsSameTaker old.low.taker x) (sym (ap (λ (f : Forwarding K). f.low.taker) e)) (taker_self old.low.taker);
            high = t.0;
            unused = λ one. absurd (let z : true ≡ false = sym is.0 ∙ one in cc);
          }
      forwards_same turn (inr (inl is)) =
          subst (λ (f : Forwarding K). IsSameForwarder same old f) (sym is.1)
          (record { config = refl; link = refl; sink = itself old.side.sink; began = refl; low = (refl, refl, refl); high = looks_same (is_two old) old.high; unused = λ one. unlooked (is_two old) old.high one; place = refl })
      forwards_same turn (inr (inr is)) =
          let e = is.2 in let t = took_same old.low new.low old.side new.side is.1 in record {
            config = t.1;
            sink = t.2;
            place = t.3;
            link = ap (λ (f : Forwarding K). f.link) e;
            began = ap (λ (f : Forwarding K). f.began) e;
            low = t.0;
            high = subst (λ (x : Taker (Outgoing kinds)). IsSameTaker old.high.taker x) (sym (ap (λ (f : Forwarding K). f.high.taker) e)) (looks_same (is_two old) old.high);
            unused = λ one. ap (λ (f : Forwarding K). f.high) e ∙ unlooked (is_two old) old.high one;
          }

      forwards_on : Forwards told failed same Ended old new → ⊥
      forwards_on (inl is) = absurd (let z : Ended ≡ Did = is.1 in cc)
      forwards_on (inr (inl is)) = absurd (let z : Ended ≡ Quiet = is.0 in cc)
      forwards_on (inr (inr is)) = absurd (let z : Ended ≡ Did = is.0 in cc)

      pub forwarded_same : (turn : Turn) → Forwarded told failed same turn old new → IsSameForwarder same old new
      forwarded_same turn (inl is) = forwarder_as old new is.2
      forwarded_same turn (inr (inl is)) = forwarder_as old new is.3
      forwarded_same turn (inr (inr is)) = forwards_same turn is.2

      pub forwarded_ended : Forwarded told failed same Ended old new → ForwarderEnded new
      forwarded_ended (inl is) = subst (λ (f : Forwarding K). ForwarderEnded f) (sym is.2) is.0
      forwarded_ended (inr (inl is)) = absurd (let z : Ended ≡ Quiet = is.2 in cc)
      forwarded_ended (inr (inr is)) = absurd (forwards_on is.2)

  pub forwarder_posted : (old new : Forwarding K) → IsPosted old.side.share new.side.share → new ≡ posted new.side.share old → IsSameForwarder same old new
  forwarder_posted old new is e =
      subst (λ (f : Forwarding K). IsSameForwarder same old f) (sym e)
      (record { config = refl; link = refl; sink = itself old.side.sink; began = refl; low = taker_self old.low.taker; high = taker_self old.high.taker; unused = λ one. refl; place = posted_place old.side.share new.side.share is })

module _ {K : Type 0} where
  pub forwarder_still : (old new : Forwarding K) → new ≡ posted new.side.share old → ForwarderEnded old → ForwarderEnded new
  forwarder_still old new e is = subst (λ (f : Forwarding K). ForwarderEnded f) (sym e) is
