-- One turn of a receiver keeps its law.
use Rattle.std.proofs.Common.{◌≡◌, inl, inr, ℕ, ◌+◌, ◌<◌, Bool, true, false, nat_eq, List, [], ◌∷◌, length, Option, refl, sym, ap, subst, ◌∙◌, arith}
use Rattle.packet_ledger.specs.Share.{Held, IsNew, IsPosted}
use Rattle.order_laws.specs.Item.{Arrival}
use Rattle.order_laws.specs.Rules.{Rules}
use Rattle.order_laws.specs.Deeds.{Ending, Accepted, Refused, Lacked, Counted}
use Rattle.process_packet.specs.declared.cause.Cause.{Cause}
use Rattle.process_packet.specs.declared.config.Config.{Config}
use Rattle.process_packet.specs.declared.underlay.Underlay.{Underlay}
use Rattle.worker_order.specs.Heard.{Heard, Gave, arrival, given, ToldNothing}
use Rattle.worker_order.specs.Keeping.{IsReceiving}
use Rattle.worker_order.proofs.Hearing.{hears_none, hears_datagram, hears_nothing, hears_tried, hears_posted}
use Rattle.router_rules.specs.Rules.{kinds, rules}
use Rattle.worker_laws.specs.Forwards.{AddsTo}
use Rattle.worker_laws.specs.Receives.{Passed, was_lacked}
use Rattle.worker_laws.specs.Works.{deed}
use Rattle.worker_laws.proofs.Receives.{passed_on, passed_full, passed_none, passed_fault}
use Rattle.worker_parts.specs.Outlet.{Offering}
use Rattle.worker_parts.specs.Outlets.{AreFresh, AreUnended, Trying, senders}
use Rattle.worker_parts.proofs.EndLemmas.{gave_sent, kept_away, gave_open, kept_open, senders_long, tried_each, fresh_open, fresh_senders}
use Rattle.worker_receiver.specs.Intake.{Intake, EndedAs, PassedIn, place}
use Rattle.worker_receiver.specs.Receiving.{KeepsReceiving, is_datagram, last_number, with_processors, with_share}
use Rattle.worker_receiver.proofs.PoolLemmas.{another_looks, none_looks}

module _ (x : Arrival kinds) (old new : Intake) (some : 0 < length old.processors) where
  abbrev R : Rules kinds
  R = rules old.config

  passed_of : (o : Ending Cause) → EndedAs x o old new → Passed R (deed x o) (senders old.processors) (senders new.processors)
  passed_of (Counted why) e =
      subst (λ (ps : List (Offering (Arrival kinds))). Passed R (deed x (Counted why)) (senders old.processors) (senders ps)) (sym e.1) (passed_fault R x why (senders old.processors) e.0)
  passed_of Lacked e = subst (λ (ps : List (Offering (Arrival kinds))). Passed R (deed x Lacked) (senders old.processors) (senders ps)) (sym e.1) (passed_none R x (senders old.processors) e.0)
  passed_of Accepted e =
      passed_on R x (senders old.processors) (place old.config x) e.0 refl (let l = senders_long old.processors in omega arith) (senders new.processors) (gave_sent (place old.config x) x old.processors new.processors e.1)
  passed_of Refused e =
      passed_full R x (senders old.processors) (place old.config x) e.0 refl (let l = senders_long old.processors in omega arith) (senders new.processors) (kept_away (place old.config x) x old.processors new.processors e.1)

  looks_of : (o : Ending Cause) → EndedAs x o old new → length new.stock.free.looks ≡ length old.stock.free.looks + was_lacked o
  looks_of (Counted why) e = let s = ap (λ st. length st.free.looks) e.2 in omega arith
  looks_of Lacked e = none_looks old.stock.free new.stock.free e.2.2
  looks_of Accepted e = let s = another_looks e.2.0 old.stock new.stock e.2.1 in omega arith
  looks_of Refused e = let s = another_looks e.2.0 old.stock e.2.1 e.2.2 in let t = ap (λ st. length st.free.looks) e.2.3.1 in omega arith

  open_of : (o : Ending Cause) → EndedAs x o old new → AreUnended old.processors → AreUnended new.processors
  open_of (Counted why) e is = subst (λ (ps : List (Offering (Arrival kinds))). AreUnended ps) (sym e.1) is
  open_of Lacked e is = subst (λ (ps : List (Offering (Arrival kinds))). AreUnended ps) (sym e.1) is
  open_of Accepted e is = gave_open (place old.config x) x old.processors new.processors some is e.1
  open_of Refused e is = kept_open (place old.config x) x old.processors new.processors some is e.1

module _ (told told' : Option (List Heard)) (number : ℕ) where
  -- a datagram more
  pub keeps_datagram : (ended : Bool) (old mid new : Intake) (from : Underlay) (now : ℕ) (bytes : List ℕ) → ended ≡ false → mid ≡ old → AddsTo told (Gave from now bytes) told' → 0 < length mid.processors
      → PassedIn (arrival mid.link mid.interface (number + 1) from now bytes) mid new → KeepsReceiving told number ended old → KeepsReceiving told' (number + 1) (nat_eq (number + 1) last_number) new
  keeps_datagram ended old mid new from now bytes going is adds some passed k = record {
    law =
        let law = hears_datagram mid.config mid.link mid.interface number told told' mid.stock.free.looks new.stock.free.looks (senders mid.processors) (senders new.processors) mid.share from now bytes passed.outcome adds
        (passed_of (arrival mid.link mid.interface (number + 1) from now bytes) mid new some passed.outcome passed.ended) (looks_of (arrival mid.link mid.interface (number + 1) from now bytes) mid new some passed.outcome passed.ended)
        (subst (λ (i : Intake). IsReceiving i.config i.link i.interface number told i.stock.free.looks (senders i.processors) i.share) (sym is) k.law) in
        let P : Config → ℕ → ℕ → Held → Type 0 = λ c l i s. IsReceiving c l i (number + 1) told' new.stock.free.looks (senders new.processors) s in
        subst (λ (c : Config). P c new.link new.interface new.share) (sym passed.same.0)
        (subst (λ (l : ℕ). P mid.config l new.interface new.share) (sym passed.same.1)
        (subst (λ (i : ℕ). P mid.config mid.link i new.share) (sym passed.same.2) (subst (λ (s : Held). P mid.config mid.link mid.interface s) (sym passed.share) law)));
    unended = λ e. open_of (arrival mid.link mid.interface (number + 1) from now bytes) mid new some passed.outcome passed.ended (subst (λ (i : Intake). AreUnended i.processors) (sym is) (k.unended going));
    few = λ e. let f = k.few going in grind arith;
    quiet = λ e. inl (grind arith);
  }

  -- another answer
  pub keeps_answer : (ended after : Bool) (old mid : Intake) (h : Heard) → ((n : ℕ) → given old.link old.interface n (h ∷ []) ≡ []) → is_datagram h ≡ false → ended ≡ false → mid ≡ old → AddsTo told h told' → KeepsReceiving told number ended old
      → KeepsReceiving told' number after mid
  keeps_answer ended after old mid h none silent going is adds k =
      subst (λ (i : Intake). KeepsReceiving told' number after i) (sym is)
      (record {
        law = hears_nothing old.config old.link old.interface number told told' old.stock.free.looks (senders old.processors) (senders old.processors) old.share h none adds k.law;
        unended = λ e. k.unended going;
        few = λ e. k.few going;
        quiet = λ e. inr (λ hs t. let a = adds hs t in (a.0, h, a.2, silent));
      })

-- marks that were tried
pub keeps_ending : (told : Option (List Heard)) (number : ℕ) (ended all : Bool) (old new : Intake) → ended ≡ true → Trying (λ j. true) old.processors new.processors all → new ≡ with_processors new.processors old → KeepsReceiving told number ended old
    → KeepsReceiving told number ended new
keeps_ending told number ended all old new met tried same k =
    subst (λ (i : Intake). KeepsReceiving told number ended i) (sym same)
    (record {
      law = hears_tried old.config old.link old.interface number told told old.stock.free.looks (senders old.processors) (senders new.processors) old.share (tried_each (λ j. true) old.processors new.processors tried.tried) k.law;
      unended = λ e. absurd (let z : true ≡ false = sym met ∙ e in cc);
      few = λ e. absurd (let z : true ≡ false = sym met ∙ e in cc);
      quiet = k.quiet;
    })

-- a post
pub keeps_posted : (told : Option (List Heard)) (number : ℕ) (ended : Bool) (old new : Intake) → IsPosted old.share new.share → new ≡ with_share new.share old → KeepsReceiving told number ended old → KeepsReceiving told number ended new
keeps_posted told number ended old new (inl is) is_shared k =
    subst (λ (i : Intake). KeepsReceiving told number ended i) (sym (is_shared ∙ ap (λ (s : Held). with_share s old) is.1))
    (record { law = hears_posted old.config old.link old.interface number told told old.stock.free.looks (senders old.processors) (senders old.processors) old.share k.law; unended = k.unended; few = k.few; quiet = k.quiet })
keeps_posted told number ended old new (inr is) is_shared k = subst (λ (i : Intake). KeepsReceiving told number ended i) (sym (is_shared ∙ ap (λ (s : Held). with_share s old) is.1)) k

-- nothing came yet
pub keeps_first : (told : Option (List Heard)) (side : Intake) → side.stock.free.looks ≡ [] → IsNew side.share → AreFresh side.processors → ToldNothing told → KeepsReceiving told 0 false side
keeps_first told side unlooked unraised fresh untold = record {
  law =
      let law = hears_none side.config side.link side.interface side.share.place told (senders side.processors) untold (fresh_senders side.processors fresh) in
      subst (λ (ls : List ℕ). IsReceiving side.config side.link side.interface 0 told ls (senders side.processors) side.share) (sym unlooked)
      (subst (λ (s : Held). IsReceiving side.config side.link side.interface 0 told [] (senders side.processors) s) (sym unraised) law);
  unended = λ e. fresh_open side.processors fresh;
  few = λ e. omega arith;
  quiet = λ e. absurd cc;
}

-- a wait
pub keeps_waited : (told told' : Option (List Heard)) (number : ℕ) (ended : Bool) (side : Intake) → told' ≡ told → KeepsReceiving told number ended side → KeepsReceiving told' number ended side
keeps_waited told told' number ended side same k = subst (λ (t : Option (List Heard)). KeepsReceiving t number ended side) (sym same) k
