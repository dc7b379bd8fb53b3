-- A packet that stands on a route is delivered.
use Rattle.std.proofs.Common.{Option, ◌⊎◌, ◌≡◌, ◌≤◌, ◌<◌, ◌+◌, ◌==◌, ℕ, zero, suc, Bool, true, false, refl, sym, ap, ap₂, ◌∙◌, arith, inl, inr, length, Some, if◌then◌else◌}
use Rattle.std.proofs.lemmas.List.Sums.{sum_by_more_le}
use Rattle.scion_packet.proofs.Offsets.{hops_in_is}
use Rattle.scion_packet.proofs.PacketLaws.{packet_only}
use Rattle.scion_packet.specs.Packet.{Packet, packet_of, spelling}
use Rattle.scion_packet.specs.Header.{HeaderFields}
use Rattle.process_packet.specs.Request.{is_request}
use Rattle.process_packet.specs.Laws.{IsMoved}
use Rattle.process_packet.specs.Rows.{Sent}
use Rattle.process_packet.specs.declared.underlay.Underlay.{Underlay}
use Rattle.process_packet.specs.PacketState.{arrives}
use Rattle.process_packet.proofs.LawLemmas.{is_moved, told}
use Rattle.scion_packet.specs.Path.{Place, Segment, count_hops, hop_number}
use Rattle.scion_packet.specs.Places.{is_last_of_path, no_segment}
use Rattle.net_laws.specs.Net.{Agrees, Net, Router, router_at}
use Rattle.net_laws.specs.Route.{IsOn, IsRoute, Route}
use Rattle.net_laws.specs.Stands.{PacketAt, IsUnasked, Stands, place_of}
use Rattle.net_laws.specs.Stop.{IsAsked, verdict_at, progress}
use Rattle.net_laws.specs.Walk.{EndsAsked, IsDelivered, Walks}
use Rattle.net_laws.proofs.StopLemmas.{ends, goes_on}

pub on_route : (net : Net) (w : Route) (from : Place) (a : PacketAt) → Stands net w from a → IsOn w (place_of a)
on_route net w from a stands =
    elim stands.there [
      | inl o ↦ o.on
      | inr i ↦ let more = i.more in let position = more.position in record { segment = more.segment; position = omega arith }
    ]

pub record Stays (net : Net) (r : ℕ) : Type 0 where
  pub here : Router
  pub here_is : router_at net r ≡ Some here

pub router_of : (net : Net) (w : Route) (from : Place) (a : PacketAt) → Stands net w from a → Stays net a.router
router_of net w from a stands =
    elim stands.there [ inl o ↦ record { here = o.here; here_is = o.here_is } | inr i ↦ record { here = i.here; here_is = i.here_is } ]

pub one_at_most : (b : Bool) → ◌≤◌ (if b then 1 else 0) 1
one_at_most true = omega arith
one_at_most false = omega arith

number_below : (w : Route) (at : Place) → IsOn w at → count_hops w.segments ≤ 64 → hop_number w.segments at < 64
number_below w at on few =
    let there = on.segment in
    let inside = on.position in
    let more = sum_by_more_le (λ (s : Segment). length s.hops) w.segments at.segment no_segment there in
    let size = hops_in_is w.segments at.segment in
    omega arith

pub far_at_most : (net : Net) (w : Route) (from : Place) (moment : ℕ) (a : PacketAt) → IsRoute net w moment → Stands net w from a → progress w a ≤ 127
far_at_most net w from moment a route stands =
    let number = number_below w (place_of a) (on_route net w from a stands) route.all_hops in
    let one = one_at_most (a.link == 0) in
    omega arith

-- what a stop sends has the header and the payload of what came
pub record IsSame (p q : Packet) : Type 0 where
  pub header : q.header ≡ p.header
  pub payload : q.payload ≡ p.payload

pub same_packet : (net : Net) (w : Route) (from : Place) (moment : ℕ) (a : PacketAt) (x : Router) (out : ℕ) (to : Option Underlay) (q : Packet) → Stands net w from a
    → verdict_at x a moment ≡ Sent out to q → IsSame a.packet q
same_packet net w from moment a x out to q stands sent =
    let bytes = spelling a.packet in
    let moved : IsMoved (packet_of bytes) q =
    is_moved (arrives x.network a.link a.source moment bytes) out to q (packet_of bytes) refl (told x.network a.link a.source moment bytes out to q sent) in
    let read : packet_of bytes ≡ a.packet = sym (packet_only bytes a.packet (record { lawful = stands.way.lawful; text = refl })) in
    record { header = moved.header ∙ ap (λ (p : Packet). p.header) read; payload = moved.payload ∙ ap (λ (p : Packet). p.payload) read }

abbrev Ends : Net → Route → Place → ℕ → ℕ → PacketAt → Type 0
Ends net w from moment n a = IsDelivered net w from moment n a ⊎ EndsAsked net w from moment n a

asked_here : (net : Net) (w : Route) (from : Place) (moment n : ℕ) (a : PacketAt) (x : Router) → Stands net w from a → router_at net a.router ≡ Some x
    → IsAsked w a.packet.header.next_header a.packet.payload (verdict_at x a moment) → EndsAsked net w from moment n a
asked_here net w from moment n a x stands here asked =
    record { end = a; walk = Walks.is_there; header = refl; payload = refl; stands = stands; here = x; here_is = here; asked = asked }

walks : (net : Net) (w : Route) (from : Place) (moment : ℕ) → Agrees net → IsRoute net w moment
    → (n : ℕ) (a : PacketAt) → Stands net w from a → 127 ≤ progress w a + n → (b : Bool) → is_last_of_path w.segments (place_of a) ≡ b → Ends net w from moment n a
walks net w from moment agrees route n a stands far true last =
    let x = router_of net w from a stands in
    elim (ends net w from moment a x.here agrees route stands x.here_is last) [
      | inl delivery ↦
          inl (record { end = a; walk = Walks.is_there; header = refl; payload = refl; stands = stands; last = last; here = x.here; here_is = x.here_is; delivery = delivery })
      | inr asked ↦ inr (asked_here net w from moment n a x.here stands x.here_is asked)
    ]
walks net w from moment agrees route zero a stands far false more =
    let x = router_of net w from a stands in
    elim (goes_on net w from moment a x.here agrees route stands x.here_is more) [
      | inl g ↦
          let farther = g.farther in
          let most = far_at_most net w from moment g.after route g.stands in
          absurd (omega arith)
      | inr asked ↦ inr (asked_here net w from moment zero a x.here stands x.here_is asked)
    ]
walks net w from moment agrees route (suc n) a stands far false more =
    let x = router_of net w from a stands in
    elim (goes_on net w from moment a x.here agrees route stands x.here_is more) [
      | inl g ↦
          let farther = g.farther in
          let same = same_packet net w from moment a x.here g.out g.to g.after.packet stands g.verdict in
          elim (walks net w from moment agrees route n g.after g.stands (omega arith) (is_last_of_path w.segments (place_of g.after)) refl) [
            | inl d ↦ inl (record {
              end = d.end;
              walk = Walks.goes x.here g.out g.to x.here_is g.verdict g.carried d.walk;
              header = d.header ∙ same.header;
              payload = d.payload ∙ same.payload;
              stands = d.stands;
              last = d.last;
              here = d.here;
              here_is = d.here_is;
              delivery = d.delivery;
            })
            | inr d ↦ inr (record {
              end = d.end;
              walk = Walks.goes x.here g.out g.to x.here_is g.verdict g.carried d.walk;
              header = d.header ∙ same.header;
              payload = d.payload ∙ same.payload;
              stands = d.stands;
              here = d.here;
              here_is = d.here_is;
              asked = d.asked;
            })
          ]
      | inr asked ↦ inr (asked_here net w from moment (suc n) a x.here stands x.here_is asked)
    ]

pub always : (net : Net) (w : Route) (from : Place) (moment : ℕ) (a : PacketAt) → Agrees net → IsRoute net w moment → Stands net w from a
    → IsDelivered net w from moment 127 a ⊎ EndsAsked net w from moment 127 a
always net w from moment a agrees route stands = walks net w from moment agrees route 127 a stands (omega arith) (is_last_of_path w.segments (place_of a)) refl

pub walked : (net : Net) (w : Route) (from : Place) (moment : ℕ) (a : PacketAt) → Agrees net → IsRoute net w moment → Stands net w from a → IsUnasked w a.packet → IsDelivered net w from moment 127 a
walked net w from moment a agrees route stands quiet =
    elim (always net w from moment a agrees route stands) [
      | inl d ↦ d
      | inr e ↦
          let asked = e.asked in
          let next = ap (λ (h : HeaderFields). h.next_header) e.header in
          let never : true ≡ false = sym asked.request ∙ ap₂ is_request next e.payload ∙ quiet asked.at asked.on asked.flag in
          absurd cc
    ]
