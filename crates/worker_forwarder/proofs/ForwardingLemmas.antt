-- One turn of a forwarder keeps its law.
use Rattle.std.proofs.Common.{◌≡◌, inl, inr, ℕ, ◌+◌, ◌||◌, min, Bool, true, false, List, [], Option, Some, None, refl, sym, ap, subst, ◌∙◌, arith}
use Rattle.packet_ledger.specs.Share.{Held, IsNew, IsPosted}
use Rattle.order_laws.specs.Item.{Outgoing}
use Rattle.order_laws.specs.Deeds as deeds
use Rattle.order_laws.specs.Deeds.{payload_of}
use Rattle.order_laws.specs.Cause.{Cause as Fate}
use Rattle.worker_order.specs.Heard.{ToldNothing}
use Rattle.worker_order.specs.Keeping.{IsForwarding}
use Rattle.worker_order.specs.Shares.{raise}
use Rattle.worker_order.proofs.Keeping.{forwards_first, hands_low, hands_high, swept_low, swept_high, mark_low, mark_high, looked_low, looked_high, forwards_posted}
use Rattle.router_rules.specs.Rules.{kinds}
use Rattle.ruled_pipe.specs.declared.entry.Entry.{Entry}
use Rattle.ruled_pipe.specs.declared.entry.Load.TheVariants.{Payload, Marked}
use Rattle.ruled_pipe.specs.declared.entry.Mark.{Mark}
use Rattle.ruled_pipe.specs.declared.entry.Mark.TheVariants as mark
use Rattle.ruled_pipe.specs.Consumer.{Taker, took}
use Rattle.ruled_pipe.specs.Gathered.{end_of, ends_in}
use Rattle.ruled_pipe.specs.Producer.{entry}
use Rattle.worker_laws.specs.Counting.{Dropped, handed_count}
use Rattle.worker_laws.specs.Ends.{load_in}
use Rattle.worker_parts.specs.Told.{Told, told_of}
use Rattle.worker_parts.proofs.Marks.{ends_more}
use Rattle.worker_forwarder.specs.declared.band.Taken.{Taken}
use Rattle.worker_forwarder.specs.declared.band.Taken.TheVariants as taken
use Rattle.worker_forwarder.specs.Forwarding.{Band, Delivery, Delivered, KeepsForwarding, Met, PassedMet, after_look, after_egress_packet, closes, end_mark, handed, looks_first, with_share}

-- the end marks that were taken, up to the most
pub band_more : (t t' : Taker (Outgoing kinds)) (e : Entry (Outgoing kinds)) (producers ends after n : ℕ) → t' ≡ took t e → n ≡ end_of e.load → after ≡ min (ends + n) producers → (producers ≡ t.producers) × (ends ≡ min (ends_in t.taken) producers)
    → (producers ≡ t'.producers) × (after ≡ min (ends_in t'.taken) producers)
band_more t t' e producers ends after n step is count inv =
    let m = ends_more t.taken e in
    let a = inv.1 in
    subst (λ (u : Taker (Outgoing kinds)). (producers ≡ u.producers) × (after ≡ min (ends_in u.taken) producers)) (sym step) (inv.0, omega arith)

no_payload : (m : Mark) → payload_of {X = Outgoing kinds} (load_in (Marked m)) ≡ []
no_payload mark.Close = refl
no_payload mark.End = refl

pub marks_end : (m : Mark) → end_of {T = Outgoing kinds} (Marked m) ≡ end_mark m
marks_end mark.Close = refl
marks_end mark.End = refl

marks_close : (m : Mark) → deeds.closes {X = Outgoing kinds} (load_in (Marked m)) ≡ closes m
marks_close mark.Close = refl
marks_close mark.End = refl

module _ {K : Type 0} (told : K → Option (List Told)) (failed : K → ℕ) (is_same : K → K → Type 0) (low high : Band) (began : ℕ) (side new : Delivery K) (k : KeepsForwarding told failed low high began side) where
  -- of the high band
  handed_high : (from : ℕ) (o : Outgoing kinds) → (b : Bool) → high.shut ≡ b → Delivered told failed is_same b o side new → KeepsForwarding told failed low (after_egress_packet from o high) began new
  handed_high from o true shut d =
      let e = entry from (Payload o) in
      let swept = swept_high told_of low.taker high.taker low.shut high.shut began (failed side.sink) side.share e (told side.sink) o refl shut k in
      let as_shut = subst (λ (b : Bool). IsForwarding told_of low.taker (took high.taker e) low.shut b (told side.sink) began (failed side.sink) (raise (Dropped Fate.Closed) side.share)) (sym shut) swept in
      subst (λ (n : Delivery K). KeepsForwarding told failed low (after_egress_packet from o high) began n) (sym d.1) as_shut
  handed_high from o false shut d =
      let e = entry from (Payload o) in
      let h = handed o d.0 in
      let went = hands_high told_of low.taker high.taker low.shut high.shut began (failed side.sink) side.share e (told side.sink) (told new.sink) (failed new.sink) h refl shut d.1 d.2 k in
      let as_shut = subst (λ (b : Bool). IsForwarding told_of low.taker (took high.taker e) low.shut b (told new.sink) began (failed new.sink) (raise (handed_count h) side.share)) (sym shut) went in
      subst (λ (n : Delivery K). KeepsForwarding told failed low (after_egress_packet from o high) began n) (sym d.4) as_shut

  pub took_high : (met : Taken (Outgoing kinds)) (after : Band) → Met (Some met) high after → PassedMet told failed is_same after.shut met side new → KeepsForwarding told failed low after began new
  took_high taken.Mark after m p =
      let e = entry m.0 (Marked m.1) in
      let marked = mark_high told_of low.taker high.taker low.shut high.shut began (failed side.sink) side.share e (told side.sink) (no_payload m.1) k in
      let as_closed = subst (λ (b : Bool). IsForwarding told_of low.taker (took high.taker e) low.shut (high.shut || b) (told side.sink) began (failed side.sink) side.share) (marks_close m.1) marked in
      subst (λ (n : Delivery K). KeepsForwarding told failed low after began n) (sym p) (subst (λ (b : Band). KeepsForwarding told failed low b began side) (sym m.2) as_closed)
  took_high (taken.Packet o) after m p =
      let same : after.shut ≡ high.shut = ap (λ (b : Band). b.shut) m.1 in
      subst (λ (b : Band). KeepsForwarding told failed low b began new) (sym m.1) (handed_high m.0 o high.shut refl (subst (λ (b : Bool). Delivered told failed is_same b o side new) same p))

  -- of the low band
  handed_low : (from : ℕ) (o : Outgoing kinds) → (b : Bool) → low.shut ≡ b → Delivered told failed is_same b o side new → KeepsForwarding told failed (after_egress_packet from o low) high began new
  handed_low from o true shut d =
      let e = entry from (Payload o) in
      let swept = swept_low told_of low.taker high.taker low.shut high.shut began (failed side.sink) side.share e (told side.sink) o refl shut k in
      let as_shut = subst (λ (b : Bool). IsForwarding told_of (took low.taker e) high.taker b high.shut (told side.sink) began (failed side.sink) (raise (Dropped Fate.Closed) side.share)) (sym shut) swept in
      subst (λ (n : Delivery K). KeepsForwarding told failed (after_egress_packet from o low) high began n) (sym d.1) as_shut
  handed_low from o false shut d =
      let e = entry from (Payload o) in
      let h = handed o d.0 in
      let went = hands_low told_of low.taker high.taker low.shut high.shut began (failed side.sink) side.share e (told side.sink) (told new.sink) (failed new.sink) h refl shut d.1 d.2 k in
      let as_shut = subst (λ (b : Bool). IsForwarding told_of (took low.taker e) high.taker b high.shut (told new.sink) began (failed new.sink) (raise (handed_count h) side.share)) (sym shut) went in
      subst (λ (n : Delivery K). KeepsForwarding told failed (after_egress_packet from o low) high began n) (sym d.4) as_shut

  pub took_low : (met : Taken (Outgoing kinds)) (after : Band) → Met (Some met) low after → PassedMet told failed is_same after.shut met side new → KeepsForwarding told failed after high began new
  took_low taken.Mark after m p =
      let e = entry m.0 (Marked m.1) in
      let marked = mark_low told_of low.taker high.taker low.shut high.shut began (failed side.sink) side.share e (told side.sink) (no_payload m.1) k in
      let as_closed = subst (λ (b : Bool). IsForwarding told_of (took low.taker e) high.taker (low.shut || b) high.shut (told side.sink) began (failed side.sink) side.share) (marks_close m.1) marked in
      subst (λ (n : Delivery K). KeepsForwarding told failed after high began n) (sym p) (subst (λ (b : Band). KeepsForwarding told failed b high began side) (sym m.2) as_closed)
  took_low (taken.Packet o) after m p =
      let same : after.shut ≡ low.shut = ap (λ (b : Band). b.shut) m.1 in
      subst (λ (b : Band). KeepsForwarding told failed b high began new) (sym m.1) (handed_low m.0 o low.shut refl (subst (λ (b : Bool). Delivered told failed is_same b o side new) same p))

module _ {K : Type 0} (told : K → Option (List Told)) (failed : K → ℕ) (low high : Band) (began : ℕ) (side : Delivery K) (k : KeepsForwarding told failed low high began side) where
  -- looks that found nothing
  pub looked_first : (two : Bool) (after : Band) → after ≡ looks_first two high → KeepsForwarding told failed low after began side
  looked_first true after is = subst (λ (b : Band). KeepsForwarding told failed low b began side) (sym is) (looked_high told_of low.taker high.taker low.shut high.shut (told side.sink) began (failed side.sink) side.share k)
  looked_first false after is = subst (λ (b : Band). KeepsForwarding told failed low b began side) (sym is) k

  pub looked_then : (after : Band) → after ≡ after_look low → KeepsForwarding told failed after high began side
  looked_then after is = subst (λ (b : Band). KeepsForwarding told failed b high began side) (sym is) (looked_low told_of low.taker high.taker low.shut high.shut (told side.sink) began (failed side.sink) side.share k)

  pub keeps_posted : (new : Delivery K) → IsPosted side.share new.share → new ≡ with_share new.share side → KeepsForwarding told failed low high began new
  keeps_posted new (inl is) is_shared = subst (λ (n : Delivery K). KeepsForwarding told failed low high began n) (sym (is_shared ∙ ap (λ (s : Held). with_share s side) is.1)) (forwards_posted told_of low.taker high.taker low.shut high.shut (told side.sink) began (failed side.sink) side.share k)
  keeps_posted new (inr is) is_shared = subst (λ (n : Delivery K). KeepsForwarding told failed low high began n) (sym (is_shared ∙ ap (λ (s : Held). with_share s side) is.1)) k

-- what is passed on leaves the configuration as it is
pub passed_config : {K : Type 0} (told : K → Option (List Told)) (failed : K → ℕ) (is_same : K → K → Type 0) (shut : Bool) (met : Taken (Outgoing kinds)) (side new : Delivery K) → PassedMet told failed is_same shut met side new → new.config ≡ side.config
passed_config told failed is_same shut taken.Mark side new is = ap (λ d. d.config) is
passed_config told failed is_same true (taken.Packet o) side new is = ap (λ d. d.config) is.1
passed_config told failed is_same false (taken.Packet o) side new is = ap (λ d. d.config) is.4

-- nothing was taken yet
pub keeps_first : {K : Type 0} (told : K → Option (List Told)) (failed : K → ℕ) (low high : Band) (began : ℕ) (side : Delivery K) → (low.taker.taken ≡ []) × (low.shut ≡ false) → (high.taker.taken ≡ []) × (high.shut ≡ false)
    → IsNew side.share → began ≡ failed side.sink → ToldNothing (told side.sink) → KeepsForwarding told failed low high began side
keeps_first told failed low high began side no_low no_high unraised count untold =
    let first = forwards_first told_of side.share.place low.taker high.taker (told side.sink) began no_low.0 no_high.0 untold in
    let P : Bool → Bool → ℕ → Held → Type 0 = λ l h f s. IsForwarding told_of low.taker high.taker l h (told side.sink) began f s in
    subst (λ (l : Bool). P l high.shut (failed side.sink) side.share) (sym no_low.1)
    (subst (λ (h : Bool). P false h (failed side.sink) side.share) (sym no_high.1) (subst (λ (f : ℕ). P false false f side.share) count (subst (λ (s : Held). P false false began s) (sym unraised) first)))
