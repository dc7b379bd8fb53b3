-- What a receiver does with a datagram, by what becomes of it.
use Rattle.std.proofs.Common.{◌≡◌, ℕ, ◌+◌, ◌≤◌, ◌^◌, List, take, Some, None, refl, sym, ap, subst, ◌∙◌}
use Rattle.packet_ledger.specs.Share.{Held, MayRaise, counting, with_fate, with_received}
use Rattle.order_laws.specs.Item.{Arrival}
use Rattle.order_laws.specs.Deeds.{Accepted, Refused, Lacked, Counted}
use Rattle.process_packet.specs.Totals.{dropped_for}
use Rattle.process_packet.specs.declared.cause.Cause.{Cause}
use Rattle.process_packet.specs.declared.cause.Cause.TheVariants as cause
use Rattle.process_packet.specs.declared.underlay.Underlay.{Underlay}
use Rattle.worker_order.specs.Heard.{arrival}
use Rattle.router_rules.specs.Rules.{inspected, kinds}
use Rattle.worker_parts.specs.Outlet.{Offering}
use Rattle.worker_parts.specs.Outlets.{GaveAt, KeptAt}
use Rattle.worker_receiver.specs.Pool.{Stock, Another, stock}
use Rattle.worker_receiver.specs.Intake.{Intake, Taking, PassedIn, place}

-- a count that may be raised may be so after another kind was
pub may_fate : (s t : Held) (why : Cause) → MayRaise s.counts → t ≡ counting s (with_received 1 s.counts) → dropped_for t.counts why + 1 ≤ 2 ^ 100
may_fate s t why may is = subst (λ (u : Held). dropped_for u.counts why + 1 ≤ 2 ^ 100) (sym is) (may.3 why)

two_raised : (s t u : Held) (why : Cause) → t ≡ counting s (with_received 1 s.counts) → u ≡ counting t (with_fate why t.counts) → u ≡ counting (counting s (with_received 1 s.counts)) (with_fate why (counting s (with_received 1 s.counts)).counts)
two_raised s t u why one two = two ∙ ap (λ (v : Held). counting v (with_fate why v.counts)) one

module _ (old : Intake) (x : Arrival kinds) (s : Held) (one : s ≡ counting old.share (with_received 1 old.share.counts)) where
  abbrev after : Stock → List (Offering (Arrival kinds)) → Held → Intake
  after st ps share = record { config = old.config; link = old.link; interface = old.interface; stock = st; processors = ps; share = share }

  pub in_fault : (why : Cause) (t : Held) → inspected old.config x.datagram.interface x.datagram.bytes ≡ Some why → t ≡ counting s (with_fate why s.counts) → PassedIn x old (after old.stock old.processors t)
  in_fault why t is two = record { outcome = Counted why; ended = (is, refl, refl); share = two_raised old.share s t why one two; same = (refl, refl, refl) }

  pub in_lack : (st : Stock) (t : Held) → inspected old.config x.datagram.interface x.datagram.bytes ≡ None → Another old.stock None st → t ≡ counting s (with_fate cause.NoBuffer s.counts) → PassedIn x old (after st old.processors t)
  in_lack st t clear got two = record { outcome = Lacked; ended = (clear, refl, got); share = two_raised old.share s t cause.NoBuffer one two; same = (refl, refl, refl) }

  pub in_accepted : (st : Stock) (at : ℕ) (ps : List (Offering (Arrival kinds))) → inspected old.config x.datagram.interface x.datagram.bytes ≡ None → at ≡ place old.config x → GaveAt at x old.processors ps → (b : List ℕ) → Another old.stock (Some b) st → PassedIn x old (after st ps s)
  in_accepted st at ps clear is gave b got = record { outcome = Accepted; ended = (clear, subst (λ (k : ℕ). GaveAt k x old.processors ps) is gave, (b, got)); share = one; same = (refl, refl, refl) }

  pub in_refused : (free st : Stock) (at : ℕ) (ps : List (Offering (Arrival kinds))) (t : Held) → inspected old.config x.datagram.interface x.datagram.bytes ≡ None → at ≡ place old.config x → KeptAt at x old.processors ps → (b : List ℕ) → Another old.stock (Some b) free → (read : List ℕ) → st ≡ stock (Some read) free.free
      → t ≡ counting s (with_fate cause.ProcessorFull s.counts) → PassedIn x old (after st ps t)
  in_refused free st at ps t clear is kept b got read reserve two = record {
    outcome = Refused;
    ended = (clear, subst (λ (k : ℕ). KeptAt k x old.processors ps) is kept, (b, free, got, (read, reserve)));
    share = two_raised old.share s t cause.ProcessorFull one two;
    same = (refl, refl, refl);
  }

-- a model seen as its value
pub seen_as : (u t : Taking) → u ≡ t → (number : ℕ) (from : Underlay) (now len : ℕ) (new : Intake) → PassedIn (arrival u.side.link u.side.interface number from now (take len u.room)) u.side new
    → PassedIn (arrival t.side.link t.side.interface number from now (take len t.room)) t.side new
seen_as u t is number from now len new passed = subst (λ (v : Taking). PassedIn (arrival v.side.link v.side.interface number from now (take len v.room)) v.side new) is passed
