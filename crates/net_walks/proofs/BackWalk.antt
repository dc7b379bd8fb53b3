-- A packet that asks no router, from wherever it stands on a route: each stop stands there, and the last one delivers it.
use Rattle.std.proofs.Common.{◌≡◌, ◌≤◌, ◌+◌, ℕ, zero, suc, Bool, true, false, List, Some, refl, sym, ap₂, ◌∙◌, arith, inl, inr}
use Rattle.scion_packet.specs.Header.{HeaderFields}
use Rattle.scion_packet.specs.Packet.{spelling}
use Rattle.scion_packet.specs.Path.{Place}
use Rattle.scion_packet.specs.Places.{is_last_of_path}
use Rattle.process_packet.specs.PacketState.{packet}
use Rattle.process_packet.specs.Request.{is_request}
use Rattle.process_packet.specs.Rows.{Verdict, delivered}
use Rattle.process_packet.specs.Shown.{turned}
use Rattle.net_laws.specs.LawfulStart.{WalksBy}
use Rattle.net_laws.specs.Net.{Agrees, Net, Router, router_at}
use Rattle.net_laws.specs.Route.{IsRoute, Route}
use Rattle.net_laws.specs.Stands.{IsUnasked, PacketAt, Stands, place_of}
use Rattle.net_laws.specs.Stop.{IsAsked, packet_state, progress, verdict_at}
use Rattle.net_laws.proofs.StopLemmas.{ends, goes_on}
use Rattle.net_laws.proofs.WalkLemmas.{far_at_most, router_of, same_packet}

-- what holds of each stop
pub record Stood (net : Net) (w : Route) (from : Place) (start b : PacketAt) : Type 0 where
  pub stands : Stands net w from b
  pub header : b.packet.header ≡ start.packet.header
  pub payload : b.packet.payload ≡ start.packet.payload

pub record EndsThere (net : Net) (w : Route) (from : Place) (moment : ℕ) (start : PacketAt) (n : ℕ) (a : PacketAt) : Type 0 where
  pub end : PacketAt
  pub walk : WalksBy net moment (Stood net w from start) n a end
  pub stood : Stood net w from start end
  pub last : is_last_of_path w.segments (place_of end) ≡ true
  pub here : Router
  pub here_is : router_at net end.router ≡ Some here
  pub delivery : verdict_at here end moment ≡ delivered here.network (packet (turned (packet_state here.network end moment (spelling end.packet))))

module _ (net : Net) (w : Route) (from : Place) (moment : ℕ) (start : PacketAt) (agrees : Agrees net) (route : IsRoute net w moment) (quiet : IsUnasked w start.packet) where
  never_asked : (a : PacketAt) (v : Verdict) → Stood net w from start a → IsAsked w a.packet.header.next_header a.packet.payload v → ⊥
  never_asked a v stood asked =
      let none : is_request a.packet.header.next_header a.packet.payload ≡ false =
      ap₂ (λ (h : HeaderFields) (p : List ℕ). is_request h.next_header p) stood.header stood.payload ∙ quiet asked.at asked.on asked.flag in
      let never : true ≡ false = sym asked.request ∙ none in
      absurd cc

  pub walks_there : (n : ℕ) (a : PacketAt) → Stood net w from start a → 127 ≤ progress w a + n → (b : Bool) → is_last_of_path w.segments (place_of a) ≡ b
      → EndsThere net w from moment start n a
  walks_there n a stood far true last =
      let x = router_of net w from a stood.stands in
      elim (ends net w from moment a x.here agrees route stood.stands x.here_is last) [
        | inl delivery ↦ record { end = a; walk = WalksBy.is_there stood; stood = stood; last = last; here = x.here; here_is = x.here_is; delivery = delivery }
        | inr asked ↦ absurd (never_asked a (verdict_at x.here a moment) stood asked)
      ]
  walks_there zero a stood far false more =
      let x = router_of net w from a stood.stands in
      elim (goes_on net w from moment a x.here agrees route stood.stands x.here_is more) [
        | inl g ↦
            let farther = g.farther in
            let most = far_at_most net w from moment g.after route g.stands in
            absurd (omega arith)
        | inr asked ↦ absurd (never_asked a (verdict_at x.here a moment) stood asked)
      ]
  walks_there (suc n) a stood far false more =
      let x = router_of net w from a stood.stands in
      elim (goes_on net w from moment a x.here agrees route stood.stands x.here_is more) [
        | inl g ↦
            let farther = g.farther in
            let same = same_packet net w from moment a x.here g.out g.to g.after.packet stood.stands g.verdict in
            let next : Stood net w from start g.after = record { stands = g.stands; header = same.header ∙ stood.header; payload = same.payload ∙ stood.payload } in
            let e : EndsThere net w from moment start n g.after = walks_there n g.after next (omega arith) (is_last_of_path w.segments (place_of g.after)) refl in
            record {
              end = e.end;
              walk = WalksBy.goes x.here g.out g.to stood x.here_is g.others g.verdict g.carried e.walk;
              stood = e.stood;
              last = e.last;
              here = e.here;
              here_is = e.here_is;
              delivery = e.delivery;
            }
        | inr asked ↦ absurd (never_asked a (verdict_at x.here a moment) stood asked)
      ]
