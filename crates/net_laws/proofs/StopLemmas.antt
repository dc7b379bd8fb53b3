-- One stop of a packet that stands on a route.
use Rattle.std.proofs.Common.{◌⊎◌, ◌≡◌, ◌≤◌, ◌<◌, ◌+◌, ◌-◌, ◌*◌, ◌^◌, ◌==◌, ◌&&◌, ℕ, Bool, true, false, not, List, length, Option, Some, refl, sym, ap, ap₂, subst, ◌∙◌, arith, if◌then◌else◌, inl, inr}
use Rattle.std.specs.Prelude.{option_map, take}
use Rattle.std.proofs.lemmas.List.Sums.{sum_by_more}
use Rattle.scion_packet.proofs.Offsets.{hops_in_is}
use Rattle.std.proofs.lemmas.Bool.{cases_Bool, cond-true, cond-false, cases_eq, cases_lt, ne_eqb, eq-eqb, le-ltb}
use Rattle.scion_packet.specs.Packet.{IsPacket, Packet, packet_of, spelling}
use Rattle.scion_packet.proofs.PacketLaws.{packet_only, packet_passes}
use Rattle.scion_packet.specs.Path.{HopField, Place, Segment, count_hops, hop_number, hops_in, place_at}
use Rattle.scion_packet.specs.Places.{is_followed, is_last_of_path, is_last_of_segment, no_segment}
use Rattle.segment_switch.specs.declared.kind.LinkKind.{LinkKind}
use Rattle.segment_switch.specs.Pairs.{changes_over}
use Rattle.process_packet.specs.declared.neighbours.Link.{Link}
use Rattle.process_packet.specs.Decide.{decision_table, ends_as, verdict}
use Rattle.process_packet.specs.Laws.{changes}
use Rattle.process_packet.specs.Neighbours.{link_kind}
use Rattle.process_packet.specs.Network.{Network, is_local, own_link}
use Rattle.process_packet.specs.Rows.{Verdict, delivered, known_pair}
use Rattle.process_packet.specs.Request.{is_request}
use Rattle.process_packet.specs.PacketState.{hop, ingress, ingress_alert, PacketState, arrival_kind, chained_id, changed_over, entry_place, is_along, is_external, is_first_of_path, packet}
use Rattle.net_laws.specs.Net.{Agrees, Net, Router, router_at}
use Rattle.net_laws.specs.Domain.{IsOf}
use Rattle.net_laws.specs.Route.{IsBefore, IsHopOf, IsOn, IsRoute, Joins, Route, after, info_of, last_in, way_in}
use Rattle.process_packet.proofs.Coming.{ComesAsItShould}
use Rattle.process_packet.specs.Shown.{StandsToLeave, asks_entry, is_for_us, turned}
use Rattle.net_laws.specs.Stands.{PacketAt, IsOnItsWay, Stands, StandsInside, StandsOutside, place_of}
use Rattle.net_laws.specs.Stop.{IsForwarded, IsAsked, progress, packet_state, verdict_at}
use Rattle.process_packet.proofs.RowsPassed.{delivers, replies_at_entry}
use Rattle.net_laws.proofs.IdLemmas.{hop_is, ids_over, not_along, size_is, turned_id}
use Rattle.process_packet.proofs.KeptLemmas.{IsKept, place_kept, turned_kept}
use Rattle.net_laws.proofs.AddressLemmas.{ends as local_end}
use Rattle.net_laws.proofs.ReadLemmas.{flag_read, along_read, followed_read, not_last_of_segment, is_followed_by, is_no_end, last_read, mac_read, unexpired_read}
use Rattle.net_laws.proofs.ComesLemmas.{comes_inside, comes_outside, external, ids_in, ids_same_in, internal}
use Rattle.net_laws.proofs.LeavesLemmas.{AtItsExit, exits_by_link, exits_to_sibling, three_true}

both_false : (a b : Bool) → b ≡ false → (a && b) ≡ false
both_false true b e = e
both_false false b e = refl

none_for : (b : Bool) → b ≡ false → ◌≡◌ {A = ℕ} (if b then 1 else 0) 0
none_for true e = absurd cc
none_for false e = refl

one_for : (b : Bool) → b ≡ true → ◌≡◌ {A = ℕ} (if b then 1 else 0) 1
one_for true e = refl
one_for false e = absurd cc

number_over : (ss : List Segment) (k : ℕ) → k < length ss → hop_number ss (place_at (k + 1) 0) ≡ count_hops (take k ss) + hops_in ss k
number_over ss k there =
    let more = sum_by_more (λ (s : Segment). length s.hops) ss k no_segment there in
    let size = hops_in_is ss k in
    omega arith

over_too : (from at : Place) → IsBefore from at → IsBefore from (place_at (at.segment + 1) 0)
over_too from at (inl less) = inl (omega arith)
over_too from at (inr both) = let same = both.0 in inl (omega arith)

not_first : (at : Place) → 1 ≤ at.position → is_first_of_path at ≡ false
not_first at entered = both_false (at.segment == 0) (at.position == 0) (ne_eqb _ _ (λ none. absurd (omega arith)))

second_segment : (k : ℕ) → is_first_of_path (place_at (k + 1) 0) ≡ false
second_segment k = ap (λ (b : Bool). b && true) (ne_eqb (k + 1) 0 (λ none. absurd (omega arith)))

is_not_end : (ss : List Segment) (at : Place) → at.position + 1 ≡ hops_in ss at.segment → is_last_of_path ss at ≡ false → at.segment + 1 < length ss
is_not_end ss at last more =
    elim (cases_lt (at.segment + 1) (length ss)) [
      | inl there ↦ there
      | inr past ↦
          let end : is_last_of_path ss at ≡ true = ap₂ (λ (b c : Bool). b && not c) (eq-eqb _ _ last) (le-ltb _ _ past) in
          let never : true ≡ false = sym end ∙ more in absurd cc
    ]

-- ---- from outside

module _ (net : Net) (w : Route) (from : Place) (moment : ℕ) (a : PacketAt) (agrees : Agrees net) (route : IsRoute net w moment)
    (way : IsOnItsWay net w from a.packet) (o : StandsOutside net w from a) where
  abbrev bytes : List ℕ
  bytes = spelling a.packet

  came : ComesAsItShould (packet_state o.here.network a moment bytes)
  came = comes_outside net w from moment a bytes route way o way.short (packet_passes bytes a.packet (record { lawful = way.lawful; text = refl }))

  for_us : is_for_us (packet_state o.here.network a moment bytes) ≡ is_last_of_path w.segments (place_of a)
  for_us =
      ap (λ (b : Bool). b && is_local o.here.network a.packet.header.destination) (external net w from moment a bytes route way o o.here)
      ∙ local_end net w moment route from a.packet.header way.addressed (place_of a) o.here o.on o.home

  -- where its hop field asks the router of entry to answer
  asked_in : asks_entry (packet_state o.here.network a moment bytes) ≡ true → IsAsked w a.packet.header.next_header a.packet.payload (ends_as (packet_state o.here.network a moment bytes) decision_table)
  asked_in asks =
      let s : PacketState = packet_state o.here.network a moment bytes in
      let t : PacketState = turned s in
      let within = ids_in net w from moment a bytes route way o o.here in
      let parts = three_true (is_external s) (ingress_alert t) (is_request a.packet.header.next_header a.packet.payload) asks in
      record {
        interface = ingress t;
        verdict = replies_at_entry s came asks;
        at = place_of a;
        on = o.on;
        flag = subst (λ (h : HopField). (h.ingress_alert ≡ true) ⊎ (h.egress_alert ≡ true)) (hop_is within (place_of a)) (flag_read (is_along t) (hop t) parts.0);
        request = parts.1;
      }

  pub ends_outside : is_last_of_path w.segments (place_of a) ≡ true
      → (ends_as (packet_state o.here.network a moment bytes) decision_table ≡ delivered o.here.network (packet (turned (packet_state o.here.network a moment bytes))))
      ⊎ IsAsked w a.packet.header.next_header a.packet.payload (ends_as (packet_state o.here.network a moment bytes) decision_table)
  ends_outside last = elim (cases_Bool (asks_entry (packet_state o.here.network a moment bytes))) [
    | inl asks ↦ inr (asked_in asks)
    | inr quiet ↦ inl (delivers (packet_state o.here.network a moment bytes) came quiet (for_us ∙ last))
  ]

  came_by : arrival_kind (packet_state o.here.network a moment bytes) ≡ Some (w.kind_in (place_of a))
  came_by =
      cond-true (is_external (packet_state o.here.network a moment bytes)) _ _ (external net w from moment a bytes route way o o.here)
      ∙ ap (λ (l : Option Link). option_map link_kind l) o.own_is ∙ ap (λ (k : LinkKind). Some k) o.kind

  taken_in : IsKept a.packet (packet (turned (packet_state o.here.network a moment bytes)))
  taken_in =
      let s : PacketState = packet_state o.here.network a moment bytes in
      let at = place_of a in
      let hop_here : IsHopOf net w moment at = route.hop at o.on in
      let test : (is_external s && not (is_along s)) ≡ not (info_of w at).along =
      ap₂ (λ (e b : Bool). e && not b) (external net w from moment a bytes route way o o.here) (along_read w true at a.packet.path.segments o.ids) in
      turned_kept a.packet (is_external s && not (is_along s)) (chained_id s)
      (λ against. subst (λ (n : ℕ). n < 2 ^ 16) (sym (turned_id w at a.packet.path.segments o.ids (not_along (info_of w at).along (sym against ∙ test)))) hop_here.fits)
      way.lawful

  -- by the hop itself
  straight_on : asks_entry (packet_state o.here.network a moment bytes) ≡ false → (place_of a).position + 1 < hops_in w.segments (place_of a).segment
      → AtItsExit net w from a.router o.here (packet_state o.here.network a moment bytes) (turned (packet_state o.here.network a moment bytes))
  straight_on quiet more =
      let x : Router = o.here in
      let s : PacketState = packet_state x.network a moment bytes in
      let t : PacketState = turned s in
      let at = place_of a in
      let within = ids_in net w from moment a bytes route way o x in
      let on = o.on in
      let next : IsOn w (after at) = record { segment = on.segment; position = more } in
      let stays : changes t ≡ false = ap (λ (b : Bool). b && is_followed t.path.segments at) (last_read w false at t.path.segments within ∙ not_last_of_segment w.segments at more) in
      let kept = taken_in in
      record {
        comes = came;
        others = for_us ∙ is_no_end w.segments at more;
        leaves = StandsToLeave.stays stays;
        network = refl;
        here = o.here_is;
        home = o.home;
        more = next;
        ids = within;
        pair = ap (λ (k : Option LinkKind). known_pair false k (Some (w.kind_out at))) came_by ∙ route.straight at next o.entered;
        way = record { lawful = kept.lawful; short = subst (λ (n : ℕ). n ≤ 9216) (sym kept.length) way.short; whole = way.whole; addressed = way.addressed };
        quiet = quiet;
        begun = inr o.begun;
      }

  -- by the first hop of the next segment
  changed : asks_entry (packet_state o.here.network a moment bytes) ≡ false → (place_of a).position + 1 ≡ hops_in w.segments (place_of a).segment → (place_of a).segment + 1 < length w.segments
      → AtItsExit net w from a.router o.here (packet_state o.here.network a moment bytes) (changed_over (turned (packet_state o.here.network a moment bytes)))
  changed quiet last followed =
      let x : Router = o.here in
      let s : PacketState = packet_state x.network a moment bytes in
      let t : PacketState = turned s in
      let u : PacketState = changed_over t in
      let at = place_of a in
      let e : Place = place_at (at.segment + 1) 0 in
      let within = ids_in net w from moment a bytes route way o x in
      let over = ids_over w at t.path.segments within last followed in
      let size = route.hops (at.segment + 1) followed in
      let on : IsOn w e = record { segment = followed; position = omega arith } in
      let next : IsOn w (after e) = record { segment = followed; position = omega arith } in
      let there : IsHopOf net w moment e = route.hop e on in
      let j : Joins w (last_in w at.segment) e = route.joins at.segment followed in
      let position : hops_in w.segments at.segment - 1 ≡ at.position = omega arith in
      let here : last_in w at.segment ≡ at = ap (λ (n : ℕ). place_at at.segment n) position in
      let home : IsOf x (w.home e) = subst (λ d. IsOf x d) (ap w.home (sym here) ∙ j.home) o.home in
      let is_last : is_last_of_segment t.path.segments at ≡ true = last_read w false at t.path.segments within ∙ eq-eqb _ _ last in
      let is_more : is_followed t.path.segments at ≡ true = followed_read w false at t.path.segments within ∙ is_followed_by w.segments at followed in
      let not_end : is_last_of_path w.segments at ≡ false = ap₂ (λ (b c : Bool). b && not c) (eq-eqb _ _ last) (is_followed_by w.segments at followed) in
      let count = within.count in
      let size_e = size_is within (at.segment + 1) in
      let moved = place_kept (packet t) e (omega arith) (omega arith) taken_in.lawful in
      let kept : IsKept a.packet (packet u) = record { lawful = moved.lawful; length = moved.length ∙ taken_in.length } in
      record {
        comes = came;
        others = for_us ∙ not_end;
        leaves = StandsToLeave.changes_over (ap₂ (λ (b c : Bool). b && c) is_last is_more) (unexpired_read w false e t.path.segments over moment there.unexpired)
            (mac_read w e t.path.segments x.network.key over (there.key a.router x o.here_is home) there.mac);
        network = refl;
        here = o.here_is;
        home = home;
        more = next;
        ids = over;
        pair = ap (λ (k : Option LinkKind). known_pair true k (Some (w.kind_out e))) came_by
            ∙ ap (λ (p : Place). changes_over (w.kind_in p) (w.kind_out e)) (sym here) ∙ j.pair;
        way = record { lawful = kept.lawful; short = subst (λ (n : ℕ). n ≤ 9216) (sym kept.length) way.short; whole = way.whole; addressed = way.addressed };
        quiet = quiet;
        begun = inr (over_too from at o.begun);
      }

  entry_straight : entry_place w.segments (place_of a) ≡ place_of a
  entry_straight = let entered = o.entered in cond-false ((place_of a).position == 0) _ _ (ne_eqb _ _ (λ none. absurd (omega arith)))

  own_at : (p : Place) → p ≡ place_of a → own_link o.here.network (way_in w p) ≡ Some o.own
  own_at p same = ap (λ (q : Place). own_link o.here.network (way_in w q)) same ∙ ap (own_link o.here.network) (sym o.link) ∙ o.own_is

  leaves_outside : asks_entry (packet_state o.here.network a moment bytes) ≡ false → is_last_of_path w.segments (place_of a) ≡ false
      → IsForwarded net w a.router o.here (progress w a) (is_for_us (packet_state o.here.network a moment bytes)) (ends_as (packet_state o.here.network a moment bytes) decision_table) (Stands net w from)
      ⊎ IsAsked w a.packet.header.next_header a.packet.payload (ends_as (packet_state o.here.network a moment bytes) decision_table)
  leaves_outside quiet more =
      let x : Router = o.here in
      let s : PacketState = packet_state x.network a moment bytes in
      let t : PacketState = turned s in
      let u : PacketState = changed_over t in
      let at = place_of a in
      let e : Place = place_at (at.segment + 1) 0 in
      let on = o.on in
      let entered = o.entered in
      let outer = o.external in
      let not_inside : (a.link == 0) ≡ false = ne_eqb a.link 0 (λ none. absurd (omega arith)) in
      let one = none_for (a.link == 0) not_inside in
      let near_by : progress w a ≤ 2 * hop_number w.segments at = omega arith in
      let near : progress w a ≤ 2 * hop_number w.segments at + 1 = omega arith in
      let there = on.segment in
      let more_hops = number_over w.segments at.segment there in
      elim (cases_lt (at.position + 1) (hops_in w.segments at.segment)) [
        | inl further ↦
            let exit = straight_on quiet further in
            let later : is_first_of_path at ≡ false = not_first at entered in
            elim (cases_eq a.router (w.left_by at)) [
              | inl mine ↦ exits_by_link net w from moment agrees route a.router x s t exit (progress w a) near mine
              | inr other ↦
                  inl (exits_to_sibling net w from moment agrees route a.router x s t exit (progress w a) near_by other (o.router ∙ ap w.entered_by (sym entry_straight)) later
                  o.own (own_at (entry_place w.segments at) entry_straight))
            ]
        | inr none ↦
            let last : at.position + 1 ≡ hops_in w.segments at.segment = let below = on.position in omega arith in
            let followed : at.segment + 1 < length w.segments = is_not_end w.segments at last more in
            let exit = changed quiet last followed in
            let past_by : progress w a ≤ 2 * hop_number w.segments e = omega arith in
            let past : progress w a ≤ 2 * hop_number w.segments e + 1 = omega arith in
            let position : hops_in w.segments (at.segment + 1 - 1) - 1 ≡ at.position = omega (arith, ap (hops_in w.segments) (let k : at.segment + 1 - 1 ≡ at.segment = omega arith in k)) in
            let segment : at.segment + 1 - 1 ≡ at.segment = omega arith in
            let entry : entry_place w.segments e ≡ at = ap₂ place_at segment position in
            elim (cases_eq a.router (w.left_by e)) [
              | inl mine ↦ exits_by_link net w from moment agrees route a.router x s u exit (progress w a) past mine
              | inr other ↦
                  inl (exits_to_sibling net w from moment agrees route a.router x s u exit (progress w a) past_by other (o.router ∙ ap w.entered_by (sym entry)) (second_segment at.segment)
                  o.own (own_at (entry_place w.segments e) entry))
            ]
      ]

  pub goes_on_outside : is_last_of_path w.segments (place_of a) ≡ false
      → IsForwarded net w a.router o.here (progress w a) (is_for_us (packet_state o.here.network a moment bytes)) (ends_as (packet_state o.here.network a moment bytes) decision_table) (Stands net w from)
      ⊎ IsAsked w a.packet.header.next_header a.packet.payload (ends_as (packet_state o.here.network a moment bytes) decision_table)
  goes_on_outside more = elim (cases_Bool (asks_entry (packet_state o.here.network a moment bytes))) [
    | inl asks ↦ inr (asked_in asks)
    | inr quiet ↦ leaves_outside quiet more
  ]

-- ---- from inside

module _ (net : Net) (w : Route) (from : Place) (moment : ℕ) (a : PacketAt) (agrees : Agrees net) (route : IsRoute net w moment)
    (way : IsOnItsWay net w from a.packet) (i : StandsInside net w from a) where
  abbrev text : List ℕ
  text = spelling a.packet

  pub goes_on_inside : IsForwarded net w a.router i.here (progress w a) (is_for_us (packet_state i.here.network a moment text)) (ends_as (packet_state i.here.network a moment text) decision_table) (Stands net w from)
      ⊎ IsAsked w a.packet.header.next_header a.packet.payload (ends_as (packet_state i.here.network a moment text) decision_table)
  goes_on_inside =
      let x : Router = i.here in
      let s : PacketState = packet_state x.network a moment text in
      let t : PacketState = turned s in
      let at = place_of a in
      let inner = internal net w from moment a text agrees route way i x in
      let within = ids_same_in net w from moment a text agrees route way i x in
      let next = i.more in
      let stays : changes t ≡ false = ap (λ (b : Bool). b && is_followed t.path.segments at) (last_read w false at t.path.segments within ∙ not_last_of_segment w.segments at next.position) in
      let kept : IsKept a.packet (packet t) =
      turned_kept a.packet (is_external s && not (is_along s)) (chained_id s)
      (λ against. let never : true ≡ false = sym against ∙ ap (λ (b : Bool). b && not (is_along s)) inner in absurd cc) way.lawful in
      let exit : AtItsExit net w from a.router x s t = record {
        comes = comes_inside net w from moment a text agrees route way i way.short (packet_passes text a.packet (record { lawful = way.lawful; text = refl }));
        others = ap (λ (b : Bool). b && is_local x.network a.packet.header.destination) inner;
        leaves = StandsToLeave.stays stays;
        network = refl;
        here = i.here_is;
        home = i.home;
        more = next;
        ids = within;
        pair = ap (λ (k : Option LinkKind). known_pair false k (Some (w.kind_out at))) (cond-false (is_external s) _ _ inner);
        way = record { lawful = kept.lawful; short = subst (λ (n : ℕ). n ≤ 9216) (sym kept.length) way.short; whole = way.whole; addressed = way.addressed };
        quiet = ap (λ (b : Bool). b && ingress_alert t && is_request a.packet.header.next_header a.packet.payload) inner;
        begun = i.begun;
      } in
      let one = one_for (a.link == 0) (eq-eqb a.link 0 i.link) in
      let inside_far : progress w a ≤ 2 * hop_number w.segments at + 1 = omega arith in
      exits_by_link net w from moment agrees route a.router x s t exit (progress w a) inside_far i.router

-- ---- either way

same_here : (net : Net) (r : ℕ) (x y : Router) → router_at net r ≡ Some x → router_at net r ≡ Some y → x ≡ y
same_here net r x y one other = let is : Some x ≡ Some y = sym one ∙ other in cc

-- what the decision reads of a packet's text is the packet
pub decides : (n : Network) (a : PacketAt) (moment : ℕ) → IsPacket a.packet
    → verdict n a.link a.source moment (spelling a.packet) ≡ ends_as (packet_state n a moment (spelling a.packet)) decision_table
unfolding verdict
decides n a moment lawful =
    let bytes = spelling a.packet in
    let read : a.packet ≡ packet_of bytes = packet_only bytes a.packet (record { lawful = lawful; text = refl }) in
    ap (λ (p : Packet). ends_as (record { network = n; link = a.link; source = a.source; moment = moment; bytes = bytes; header = p.header; path = p.path; payload = p.payload; switched = false }) decision_table) (sym read)

pub ends : (net : Net) (w : Route) (from : Place) (moment : ℕ) (a : PacketAt) (x : Router)
    → Agrees net → IsRoute net w moment → Stands net w from a → router_at net a.router ≡ Some x → is_last_of_path w.segments (place_of a) ≡ true
    → (verdict_at x a moment ≡ delivered x.network (packet (turned (packet_state x.network a moment (spelling a.packet)))))
    ⊎ IsAsked w a.packet.header.next_header a.packet.payload (verdict_at x a moment)
ends net w from moment a x agrees route stands here last =
    let bytes = spelling a.packet in
    let told = λ (v : Verdict) (y : Router). (v ≡ delivered y.network (packet (turned (packet_state y.network a moment bytes)))) ⊎ IsAsked w a.packet.header.next_header a.packet.payload v in
    elim stands.there [
      | inl o ↦
          subst (λ (v : Verdict). told v x) (sym (decides x.network a moment stands.way.lawful))
          (subst (λ (y : Router). told (ends_as (packet_state y.network a moment bytes) decision_table) y) (same_here net a.router o.here x o.here_is here)
          (ends_outside net w from moment a agrees route stands.way o last))
      | inr i ↦ let more = i.more in let never : true ≡ false = sym last ∙ is_no_end w.segments (place_of a) more.position in absurd cc
    ]

pub goes_on : (net : Net) (w : Route) (from : Place) (moment : ℕ) (a : PacketAt) (x : Router)
    → Agrees net → IsRoute net w moment → Stands net w from a → router_at net a.router ≡ Some x → is_last_of_path w.segments (place_of a) ≡ false
    → IsForwarded net w a.router x (progress w a) (is_for_us (packet_state x.network a moment (spelling a.packet))) (verdict_at x a moment) (Stands net w from)
    ⊎ IsAsked w a.packet.header.next_header a.packet.payload (verdict_at x a moment)
goes_on net w from moment a x agrees route stands here more =
    let bytes = spelling a.packet in
    let told = λ (v : Verdict) (y : Router). IsForwarded net w a.router y (progress w a) (is_for_us (packet_state y.network a moment (spelling a.packet))) v (Stands net w from) ⊎ IsAsked w a.packet.header.next_header a.packet.payload v in
    subst (λ (v : Verdict). told v x) (sym (decides x.network a moment stands.way.lawful)) (elim stands.there [
      | inl o ↦ subst (λ (y : Router). told (ends_as (packet_state y.network a moment bytes) decision_table) y) (same_here net a.router o.here x o.here_is here) (goes_on_outside net w from moment a agrees route stands.way o more)
      | inr i ↦ subst (λ (y : Router). told (ends_as (packet_state y.network a moment bytes) decision_table) y) (same_here net a.router i.here x i.here_is here) (goes_on_inside net w from moment a agrees route stands.way i)
    ])
