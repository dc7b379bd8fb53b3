-- Which AS of a route a packet is from, and which one it is for.
use Rattle.std.proofs.Common.{◌≡◌, ◌≤◌, ◌+◌, ◌-◌, ◌==◌, ◌&&◌, ℕ, Bool, true, false, not, length, sym, ap, ap₂, subst, ◌∙◌, arith, inl, inr}
use Rattle.std.proofs.lemmas.Bool.{and_parts, cases_Bool, cases_lt, eq-eqb, eqb-true, le-ltb}
use Rattle.scion_packet.specs.Header.{HeaderFields, HostAddress}
use Rattle.scion_packet.specs.Path.{Place, hops_in, place_at}
use Rattle.scion_packet.specs.Places.{is_last_of_path}
use Rattle.process_packet.specs.Network.{is_local}
use Rattle.net_laws.specs.Net.{Net, Router}
use Rattle.net_laws.specs.Domain.{Domain, IsOf}
use Rattle.net_laws.specs.Route.{AreJoined, IsBefore, IsOn, IsRoute, Route, end_of}
use Rattle.net_laws.specs.Stands.{IsAddressed, IsHostOf}
use Rattle.net_laws.proofs.ReadLemmas.{is_followed_by, is_no_end}

pub is_local_there : (x : Router) (a : HostAddress) (d : Domain) → IsOf x d → IsHostOf a d → is_local x.network a ≡ true
is_local_there x a d here host =
    ap₂ (λ (p q : Bool). p && q) (eq-eqb _ _ (host.isd ∙ sym here.isd)) (eq-eqb _ _ (host.autonomous_system ∙ sym here.autonomous_system))

same_domain : (d e : Domain) → d.isd ≡ e.isd → d.autonomous_system ≡ e.autonomous_system → d ≡ e
same_domain d e isd number = ap₂ (λ (i n : ℕ). record { isd = i; autonomous_system = n }) isd number

not_local_elsewhere : (x : Router) (a : HostAddress) (d e : Domain) → IsOf x d → IsHostOf a e → (e ≡ d → ⊥) → is_local x.network a ≡ false
not_local_elsewhere x a d e here host other =
    elim (cases_Bool (is_local x.network a)) [
      | inl local ↦
          let both = and_parts (a.isd == x.network.isd) (a.autonomous_system == x.network.autonomous_system) local in
          absurd (other (same_domain e d (sym host.isd ∙ eqb-true _ _ both.0 ∙ here.isd) (sym host.autonomous_system ∙ eqb-true _ _ both.1 ∙ here.autonomous_system)))
      | inr away ↦ away
    ]

module _ (net : Net) (w : Route) (moment : ℕ) (route : IsRoute net w moment) (from : Place) (h : HeaderFields) (addressed : IsAddressed w from h) where
  pub begins : (at : Place) (x : Router) → IsOn w at → IsBefore from at → IsOf x (w.home at) → is_local x.network h.source ≡ false
  begins at x on later here =
      let next = addressed.goes_on in
      let more = next.position in
      let on_from : IsOn w from = record { segment = next.segment; position = omega arith } in
      not_local_elsewhere x h.source (w.home at) (w.home from) here addressed.source
      (λ same. let joined : AreJoined w from at = route.apart from at on_from on later same in let last = joined.last in absurd (omega arith))

  end_on : IsOn w (end_of w)
  end_on =
      let some = route.some in
      let two = route.hops (length w.segments - 1) (omega arith) in
      record { segment = omega arith; position = omega arith }

  at_end : (at : Place) → IsOn w at → at.position + 1 ≡ hops_in w.segments at.segment → length w.segments ≤ at.segment + 1 → at ≡ end_of w
  at_end at on last none =
      let there = on.segment in
      let segment : at.segment ≡ length w.segments - 1 = omega arith in
      let size = ap (hops_in w.segments) segment in
      let position : at.position ≡ hops_in w.segments (length w.segments - 1) - 1 = omega arith in
      ap₂ place_at segment position

  away : (at : Place) (x : Router) → IsOn w at → IsBefore at (end_of w) → IsOf x (w.home at) → is_local x.network h.destination ≡ false
  away at x on before here =
      let some = route.some in
      let two = route.hops (length w.segments - 1) (omega arith) in
      not_local_elsewhere x h.destination (w.home at) (w.home (end_of w)) here addressed.destination
      (λ same. let joined : AreJoined w at (end_of w) = route.apart at (end_of w) on end_on before (sym same) in let first = joined.first in absurd (omega arith))

  pub ends : (at : Place) (x : Router) → IsOn w at → IsOf x (w.home at) → is_local x.network h.destination ≡ is_last_of_path w.segments at
  ends at x on here =
      let there = on.segment in
      let inside = on.position in
      elim (cases_lt (at.position + 1) (hops_in w.segments at.segment)) [
        | inl more ↦
            let before : IsBefore at (end_of w) = elim (cases_lt at.segment (length w.segments - 1)) [
              | inl less ↦ inl less
              | inr last ↦
                  let segment : at.segment ≡ length w.segments - 1 = omega arith in
                  let size = ap (hops_in w.segments) segment in
                  inr (segment, omega arith)
            ] in
            away at x on before here ∙ sym (is_no_end w.segments at more)
        | inr none ↦
            let last : at.position + 1 ≡ hops_in w.segments at.segment = omega arith in
            elim (cases_lt (at.segment + 1) (length w.segments)) [
              | inl followed ↦
                  let not_end : is_last_of_path w.segments at ≡ false = ap₂ (λ (b c : Bool). b && not c) (eq-eqb _ _ last) (is_followed_by w.segments at followed) in
                  away at x on (inl (omega arith)) here ∙ sym not_end
              | inr over ↦
                  let is_end : is_last_of_path w.segments at ≡ true = ap₂ (λ (b c : Bool). b && not c) (eq-eqb _ _ last) (le-ltb _ _ over) in
                  is_local_there x h.destination (w.home at) here (subst (λ (p : Place). IsHostOf h.destination (w.home p)) (sym (at_end at on last over)) addressed.destination) ∙ sym is_end
            ]
      ]
