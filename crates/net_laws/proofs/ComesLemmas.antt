-- A packet that stands on a route comes as it should.
use Rattle.std.proofs.Common.{◌≡◌, ◌≤◌, ◌-◌, ◌==◌, ◌&&◌, ℕ, Bool, true, false, not, List, length, Option, None, refl, sym, ap, ap₂, subst, ◌∙◌, arith, if◌then◌else◌, inl, inr}
use Rattle.std.proofs.lemmas.Bool.{eq-eqb, ne_eqb, cond-true, cond-false, cases_eq, or_left, or_right}
use Rattle.path_fields.specs.InPlace.{with_segment_id}
use Rattle.scion_packet.specs.Packet.{first_fault}
use Rattle.scion_packet.specs.Path.{Place, Segment, hops_in, place_at}
use Rattle.scion_packet.specs.Places.{hop_there, info_there, is_last_of_path}
use Rattle.process_packet.specs.declared.neighbours.Link.{Link}
use Rattle.process_packet.specs.declared.neighbours.Sibling.{Sibling}
use Rattle.process_packet.specs.declared.underlay.Underlay.{Underlay}
use Rattle.process_packet.specs.Network.{is_local, is_owner, is_remote, sibling}
use Rattle.process_packet.specs.PacketState.{PacketState, chained_id, entry, entry_place, ingress_of, is_along, is_external, is_first_of_path}
use Rattle.process_packet.specs.Underlay.{same_ip}
use Rattle.net_laws.specs.Net.{Agrees, AreOfOneAS, Net, Router}
use Rattle.net_laws.specs.Domain.{IsOf}
use Rattle.net_laws.proofs.NetLemmas.{ListsAt, listed_at}
use Rattle.net_laws.specs.Route.{IsHopOf, IsOn, IsRoute, Route, way_in}
use Rattle.process_packet.proofs.Coming.{ComesAsItShould}
use Rattle.process_packet.specs.Shown.{turned}
use Rattle.net_laws.specs.Stands.{PacketAt, IdsStand, IsFromEntry, IsOnItsWay, StandsInside, StandsOutside, place_of}
use Rattle.net_laws.specs.Stop.{packet_state}
use Rattle.net_laws.proofs.IdLemmas.{hop_is, ids_turned, size_is}
use Rattle.net_laws.proofs.AddressLemmas.{begins, ends}
use Rattle.net_laws.proofs.ReadLemmas.{along_read, end_lawful, end_lawful_inside, end_read, ingress_read, is_no_end, mac_read, same_ip_of, same_of, unexpired_read}

-- both routers are of the AS
pub of_one_as : (x y : Router) (w : Route) (at : Place) → IsOf x (w.home at) → IsOf y (w.home at) → AreOfOneAS x y
of_one_as x y w at one other = record { isd = one.isd ∙ sym other.isd; autonomous_system = one.autonomous_system ∙ sym other.autonomous_system }

-- ---- from outside

module _ (net : Net) (w : Route) (from : Place) (moment : ℕ) (a : PacketAt) (bytes : List ℕ) (route : IsRoute net w moment) (way : IsOnItsWay net w from a.packet)
    (o : StandsOutside net w from a) where
  pub external : (x : Router) → is_external (packet_state x.network a moment bytes) ≡ true
  external x = let there = o.external in ap not (ne_eqb a.link 0 (λ none. absurd (omega arith)))

  pub ids_in : (x : Router) → IdsStand w false (place_of a) (turned (packet_state x.network a moment bytes)).path.segments
  ids_in x =
      let s : PacketState = packet_state x.network a moment bytes in
      let at = place_of a in
      ids_turned w (is_external s && not (is_along s)) at a.packet.path.segments o.ids o.on.segment
      (ap₂ (λ (e b : Bool). e && not b) (external x) (along_read w true at a.packet.path.segments o.ids))

  pub comes_outside : length bytes ≤ 9216 → first_fault bytes ≡ None → ComesAsItShould (packet_state o.here.network a moment bytes)
  comes_outside short sound =
      let x : Router = o.here in
      let s : PacketState = packet_state x.network a moment bytes in
      let at = place_of a in
      let ss = a.packet.path.segments in
      let there : IsHopOf net w moment at = route.hop at o.on in
      let out = external x in
      let within = ids_in x in
      record {
        short = short;
        sound = sound;
        unexpired = unexpired_read w true at ss o.ids moment there.unexpired;
        by_its_link = λ _. ingress_read w true at ss o.ids ∙ sym o.link;
        whole = way.whole;
        sender = cond-true (is_external s) _ _ out ∙ ap (λ (l : Option Link). is_remote l a.source) o.own_is ∙ same_of a.source o.own.remote o.source;
        source = cond-true (is_external s) _ _ out ∙ ap not (begins net w moment route from a.packet.header way.addressed at x o.on o.begun o.home);
        destination = end_lawful (is_external s) (is_last_of_path ss at) (is_local x.network a.packet.header.destination) out
            (ends net w moment route from a.packet.header way.addressed at x o.on o.home ∙ sym (end_read w true at ss o.ids));
        authentic = mac_read w at (turned s).path.segments x.network.key within (there.key a.router x o.here_is o.home) there.mac;
      }

-- ---- from inside

later_segment : (k : ℕ) → ((k == 0) && true) ≡ false → 1 ≤ k
later_segment k later =
    elim (cases_eq k 0) [
      | inl none ↦ let is : (k == 0) ≡ true = eq-eqb k 0 none in let both : true ≡ false = ap (λ (b : Bool). b && true) (sym is) ∙ later in absurd cc
      | inr some ↦ omega arith
    ]

entry_read : (b : Bool) (w : Route) (at : Place) (ss : List Segment) → IdsStand w false at ss → (at.position == 0) ≡ b → is_first_of_path at ≡ false
    → ingress_of (info_there ss (if b then place_at (at.segment - 1) (hops_in ss (at.segment - 1) - 1) else at)) (hop_there ss (if b then place_at (at.segment - 1) (hops_in ss (at.segment - 1) - 1) else at))
    ≡ way_in w (if b then place_at (at.segment - 1) (hops_in w.segments (at.segment - 1) - 1) else at)
entry_read true w at ss stands is later =
    let e : Place = place_at (at.segment - 1) (hops_in ss (at.segment - 1) - 1) in
    let some : 1 ≤ at.segment = later_segment at.segment (ap (λ (b : Bool). (at.segment == 0) && b) (sym is) ∙ later) in
    ap₂ ingress_of (stands.earlier e (omega arith)) (hop_is stands e)
    ∙ ap (λ (n : ℕ). way_in w (place_at (at.segment - 1) (n - 1))) (size_is stands (at.segment - 1))
entry_read false w at ss stands is later = ingress_read w false at ss stands

module _ (net : Net) (w : Route) (from : Place) (moment : ℕ) (a : PacketAt) (bytes : List ℕ) (agrees : Agrees net) (route : IsRoute net w moment)
    (way : IsOnItsWay net w from a.packet) (i : StandsInside net w from a) where
  pub internal : (x : Router) → is_external (packet_state x.network a moment bytes) ≡ false
  internal x = ap not (eq-eqb a.link 0 i.link)

  pub on_it : IsOn w (place_of a)
  on_it = let more = i.more in record { segment = more.segment; position = omega arith }

  pub ids_same_in : (x : Router) → IdsStand w false (place_of a) (turned (packet_state x.network a moment bytes)).path.segments
  ids_same_in x =
      let s : PacketState = packet_state x.network a moment bytes in
      let ss = a.packet.path.segments in
      let at = place_of a in
      subst (λ (ts : List Segment). IdsStand w false at ts)
      (sym (ap (λ (b : Bool). if (b && not (is_along s)) then with_segment_id ss at.segment (chained_id s) else ss) (internal x))) i.ids

  -- the sibling that took it in
  from_entry : IsFromEntry net w (place_of a) a → is_first_of_path (place_of a) ≡ false
      → is_owner (sibling i.here.network (entry (packet_state i.here.network a moment bytes))) a.source ≡ true
  from_entry entered later =
      let at = place_of a in
      let x : Router = i.here in
      let e : Place = entry_place w.segments at in
      let one = of_one_as x entered.taker w at i.home entered.home in
      let listed : ListsAt x entered.taker (way_in w e) entered.own =
      listed_at x entered.taker (way_in w e) entered.own ((agrees.within a.router (w.entered_by e) x entered.taker i.here_is entered.taker_is one).siblings entered.other) entered.own_is in
      let ip : a.source.ip ≡ listed.entry.at.ip = ap (λ (u : Underlay). u.ip) (entered.source ∙ sym listed.at) in
      ap (λ (id : ℕ). is_owner (sibling x.network id) a.source) (entry_read (at.position == 0) w at a.packet.path.segments i.ids refl later)
      ∙ ap (λ (l : Option Sibling). is_owner l a.source) listed.listed
      ∙ subst (λ ip'. same_ip a.source.ip ip' ≡ true) ip (same_ip_of a.source.ip)

  pub comes_inside : length bytes ≤ 9216 → first_fault bytes ≡ None → ComesAsItShould (packet_state i.here.network a moment bytes)
  comes_inside short sound =
      let x : Router = i.here in
      let s : PacketState = packet_state x.network a moment bytes in
      let at = place_of a in
      let ss = a.packet.path.segments in
      let there : IsHopOf net w moment at = route.hop at on_it in
      let out = internal x in
      let within = ids_same_in x in
      let more = i.more in
      record {
        short = short;
        sound = sound;
        unexpired = unexpired_read w false at ss i.ids moment there.unexpired;
        by_its_link = λ outside. let never : true ≡ false = sym outside ∙ out in absurd cc;
        whole = way.whole;
        sender = cond-false (is_external s) _ _ out ∙ elim i.sender [
          | inl first ↦ or_left (is_first_of_path at) _ first.0
          | inr later ↦ or_right (is_first_of_path at) _ (from_entry later.1 later.0)
        ];
        source = cond-false (is_external s) _ _ out ∙ elim i.sender [
          | inl first ↦ or_right (not (is_first_of_path at)) _ first.1
          | inr later ↦ or_left (not (is_first_of_path at)) _ (ap not later.0)
        ];
        destination = end_lawful_inside (is_external s) (is_last_of_path ss at) (is_local x.network a.packet.header.destination) out
            (ends net w moment route from a.packet.header way.addressed at x on_it i.home ∙ is_no_end w.segments at more.position);
        authentic = mac_read w at (turned s).path.segments x.network.key within (there.key a.router x i.here_is i.home) there.mac;
      }
