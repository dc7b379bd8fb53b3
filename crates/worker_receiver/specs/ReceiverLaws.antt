-- A receiver stays the same one in each turn, wait and post, and has ended when a turn says so.
use Rattle.std.proofs.Common.{◌≡◌, ◌⊎◌, inl, inr, ℕ, ◌+◌, Bool, true, false, List, Option, refl, sym, ap, subst, ◌∙◌}
use Rattle.order_laws.specs.Item.{Arrival}
use Rattle.order_laws.specs.Deeds.{Ending, Accepted, Refused, Lacked, Counted}
use Rattle.process_packet.specs.declared.cause.Cause.{Cause}
use Rattle.packet_ledger.specs.Share.{Held, IsPosted}
use Rattle.packet_ledger.proofs.Posting.{posted_place}
use Rattle.worker_laws.specs.Counting.{receiver_counts}
use Rattle.worker_laws.specs.Works.{deed}
use Rattle.worker_order.proofs.Shares.{all_place}
use Rattle.worker_order.specs.Heard.{Heard, Gave, WasQuiet, HadFailed, WasAtEnd, arrival}
use Rattle.router_rules.specs.Rules.{kinds}
use Rattle.worker_receiver.specs.Intake.{Intake, EndedAs, place}
use Rattle.worker_receiver.specs.Receiving.{Receiving, Idles, Heeds, Received, Waited, posted}
use Rattle.worker_parts.specs.declared.turn.Turn.{Turn}
use Rattle.worker_parts.specs.declared.turn.Turn.TheVariants.{Did, Quiet, Ended}
use Rattle.worker_parts.specs.Same.{AreSameEnds, ends_self}
use Rattle.worker_receiver.specs.SameReceiver.{IsSameReceiver, ReceiverEnded}
use Rattle.worker_parts.proofs.SameLemmas.{ends_as, gave_same, kept_same, tried_same, all_there}

abbrev every : ℕ → Bool
every j = true

outcome_same : (x : Arrival kinds) (o : Ending Cause) (old new : Intake) → EndedAs x o old new → AreSameEnds every old.processors new.processors
outcome_same x (Counted why) old new is = ends_as every old.processors new.processors is.1
outcome_same x Lacked old new is = ends_as every old.processors new.processors is.1
outcome_same x Accepted old new is = gave_same old.stock.free.pipe every (place old.config x) x old.processors new.processors refl is.1
outcome_same x Refused old new is = kept_same old.stock.free.pipe every (place old.config x) x old.processors new.processors refl is.1

module _ {S : Type 0} where
  idles_on : (old new : Receiving S) → Idles Ended old new → ⊥
  idles_on old new is = go is.2
    where
      go : ((Ended ≡ Quiet) × (new.ended ≡ false)) ⊎ ((Ended ≡ Did) × (new.ended ≡ true)) → ⊥
      go (inl e) = absurd (let z : Ended ≡ Quiet = e.0 in cc)
      go (inr e) = absurd (let z : Ended ≡ Did = e.0 in cc)

  heeds_on : (h : Heard) (old new : Receiving S) → Heeds Ended h old new → ⊥
  heeds_on (Gave from now bytes) old new is = absurd (let z : Ended ≡ Did = is.0 in cc)
  heeds_on WasQuiet old new is = idles_on old new is
  heeds_on HadFailed old new is = idles_on old new is
  heeds_on WasAtEnd old new is = absurd (let z : Ended ≡ Did = is.0 in cc)

  module _ (told : S → Option (List Heard)) (failed : S → ℕ) (same : S → S → Type 0) (old new : Receiving S) where
    pub received_ended : Received told failed same Ended old new → ReceiverEnded new
    received_ended (inl is) = record {
      ended = ap (λ (r : Receiving S). r.ended) is.1.3 ∙ is.0;
      processors = all_there is.1.0 every new.side.processors is.1.2 is.1.1.there;
    }
    received_ended (inr (inl is)) = absurd (let z : Ended ≡ Quiet = is.2 in cc)
    received_ended (inr (inr is)) = absurd (heeds_on is.1.0 old new is.1.2)

  pub receiver_still : (old new : Receiving S) → new ≡ posted new.side.share old → ReceiverEnded old → ReceiverEnded new
  receiver_still old new e is = subst (λ (r : Receiving S). ReceiverEnded r) (sym e) (record { ended = is.ended; processors = is.processors })

module _ {S : Type 0} (same : S → S → Type 0) (itself : (s : S) → same s s) where
  as_side : (old new : Receiving S) → same old.source new.source → new.side ≡ old.side → IsSameReceiver same old new
  as_side old new source e = record {
    config = ap (λ (i : Intake). i.config) e;
    link = ap (λ (i : Intake). i.link) e;
    interface = ap (λ (i : Intake). i.interface) e;
    source = source;
    processors = ends_as every old.side.processors new.side.processors (ap (λ (i : Intake). i.processors) e);
    place = ap (λ (i : Intake). i.share.place) e;
  }

  -- a source that was not touched
  kept : (old new : Receiving S) → new.source ≡ old.source → same old.source new.source
  kept old new e = subst (λ (s : S). same old.source s) (sym e) (itself old.source)

  heard_same : (turn : Turn) (h : Heard) (old new : Receiving S) → same old.source new.source → Heeds turn h old new → IsSameReceiver same old new
  heard_same turn (Gave from now bytes) old new source is =
      let p = is.3 in record {
        config = p.same.0;
        link = p.same.1;
        interface = p.same.2;
        source = source;
        processors = outcome_same (arrival old.side.link old.side.interface (old.number + 1) from now bytes) p.outcome old.side new.side p.ended;
        place = ap (λ (s : Held). s.place) p.share ∙ all_place (receiver_counts {K = kinds} (deed (arrival old.side.link old.side.interface (old.number + 1) from now bytes) p.outcome)) old.side.share;
      }
  heard_same turn WasQuiet old new source is = as_side old new source is.1
  heard_same turn HadFailed old new source is = as_side old new source is.1
  heard_same turn WasAtEnd old new source is = as_side old new source is.2

  module _ (told : S → Option (List Heard)) (failed : S → ℕ) (old new : Receiving S) where
    pub received_same : (turn : Turn) → Received told failed same turn old new → IsSameReceiver same old new
    received_same turn (inl is) =
        let all = is.1.0 in let trying = is.1.1 in let e = is.1.3 in record {
          config = ap (λ (r : Receiving S). r.side.config) e;
          link = ap (λ (r : Receiving S). r.side.link) e;
          interface = ap (λ (r : Receiving S). r.side.interface) e;
          source = kept old new (ap (λ (r : Receiving S). r.source) e);
          processors = tried_same every old.side.processors new.side.processors trying.tried;
          place = ap (λ (r : Receiving S). r.side.share.place) e;
        }
    received_same turn (inr (inl is)) = as_side old new (kept old new (ap (λ (r : Receiving S). r.source) is.3)) (ap (λ (r : Receiving S). r.side) is.3)
    received_same turn (inr (inr is)) = heard_same turn is.1.0 old new is.1.1.3 is.1.2

    pub waited_same : Waited told failed same old new → IsSameReceiver same old new
    waited_same is = as_side old new is.3 (ap (λ (r : Receiving S). r.side) is.2)

  pub receiver_posted : (old new : Receiving S) → IsPosted old.side.share new.side.share → new ≡ posted new.side.share old → IsSameReceiver same old new
  receiver_posted old new is e = subst (λ (r : Receiving S). IsSameReceiver same old r) (sym e) (record { config = refl; link = refl; interface = refl; source = itself old.source; processors = ends_self every old.side.processors; place = posted_place old.side.share new.side.share is })
