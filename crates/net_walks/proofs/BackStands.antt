-- The answer to a packet on a route stands on the route travelled back.
use Rattle.std.proofs.Common.{◌≡◌, ◌≤◌, ◌<◌, ◌+◌, ◌-◌, ◌==◌, ◌&&◌, ◌||◌, ℕ, Bool, true, false, not, List, length, refl, sym, ap, ap₂, subst, ◌∙◌, arith, inl, inr, Option, Some, None}
use Rattle.std.proofs.lemmas.Bool.{cases_eq, cond-false, cond-true, eq-eqb, le-ltb, lt-ltb, ne_eqb, or_left, or_right, and_from}
use Rattle.scion_packet.specs.Packet.{Packet}
use Rattle.scion_packet.specs.Path.{PathFields, Place, Segment, hops_in, place_at}
use Rattle.scion_packet.specs.Places.{is_followed, mirrored}
use Rattle.scion_packet.specs.Places as places
use Rattle.scion_packet.specs.Reversed.{reversed_path}
use Rattle.scmp_answer.specs.WayBack.{is_external, is_in_later_segment, leaves_the_hop, moved_to, one_hop_on, way_back}
use Rattle.process_packet.specs.declared.underlay.Underlay.{Underlay}
use Rattle.process_packet.specs.Network.{own_link}
use Rattle.process_packet.specs.PacketState.{entry_place, is_first_of_path}
use Rattle.net_laws.specs.Net.{Joined, Net, Router, end_at, router_at}
use Rattle.net_laws.specs.Domain.{IsOf}
use Rattle.net_laws.specs.Route.{IsBefore, Crosses, IsOn, IsRoute, Joins, Route, after, id_before, id_after, last_in, reversed_route, way_in, way_out}
use Rattle.net_laws.specs.Route as route_words
use Rattle.net_laws.specs.Stands.{PacketAt, IdsStand, IsFromEntry, IsOnItsWay, Stands, StandsInside, StandsOutside, place_of}
use Rattle.net_laws.specs.Stop.{IsCarried}
use Rattle.net_walks.specs.Returns.{IsUnderWay, ReturnsOn, turning_point}
use Rattle.net_laws.proofs.IdLemmas.{size_is}
use Rattle.net_laws.proofs.BackLemmas.{back, back_len, back_size}
use Rattle.net_laws.proofs.BackIds.{ids_back, ids_under}
use Rattle.net_laws.proofs.RouteBack.{before_is_after, in_is_out}
use Rattle.net_laws.proofs.ComesLemmas.{of_one_as}
use Rattle.net_laws.proofs.LeavesLemmas.{same_router}

-- ---- the cursor of the answer

-- the path travelled back, at this place
abbrev pub back_at : PathFields → Place → PathFields
back_at p at = record { reserved = 0; place = at; segments = back p.segments }

next_inside : (ss : List Segment) (at : Place) → at.position + 1 < hops_in ss at.segment → places.next ss at ≡ Some (place_at at.segment (at.position + 1))
next_inside ss at more = cond-true _ _ _ (lt-ltb _ _ more)

next_over : (ss : List Segment) (at : Place) → hops_in ss at.segment ≤ at.position + 1 → at.segment + 1 < length ss → places.next ss at ≡ Some (place_at (at.segment + 1) 0)
next_over ss at last more = cond-false _ _ _ (le-ltb _ _ last) ∙ cond-true _ _ _ (lt-ltb _ _ more)

one_on : (p : PathFields) (at : Place) → places.next (back p.segments) (mirrored p.segments p.place) ≡ Some at → one_hop_on (reversed_path p) ≡ back_at p at
one_on p at follows = ap (λ (o : Option Place). moved_to o (reversed_path p)) follows

leaves : (link : ℕ) (p : PathFields) (at : Place) → leaves_the_hop link p ≡ true → places.next (back p.segments) (mirrored p.segments p.place) ≡ Some at
    → way_back link p ≡ back_at p at
leaves link p at test follows = cond-true (leaves_the_hop link p) _ _ test ∙ one_on p at follows

keeps : (link : ℕ) (p : PathFields) → leaves_the_hop link p ≡ false → way_back link p ≡ back_at p (mirrored p.segments p.place)
keeps link p test = cond-false (leaves_the_hop link p) _ _ test

-- ---- from outside

-- What the way back of a packet from outside is: it starts past the current hop, at the one before.
record TurnsOutside (w : Route) (a : PacketAt) : Type 0 where
  to : Place
  way_is : way_back a.link a.packet.path ≡ back_at a.packet.path to
  on : IsOn (reversed_route w) to
  entered : 1 ≤ to.position
  before : after (mirrored (route_words.way_back w) to) ≡ place_of a
  ids : id_before w (place_of a) ≡ id_before (reversed_route w) to → IdsStand (reversed_route w) true to (back a.packet.path.segments)
  begun : IsBefore (turning_point a) to

turns_outside : (net : Net) (w : Route) (from : Place) (a : PacketAt) → StandsOutside net w from a → TurnsOutside w a
turns_outside net w from a o =
    let at = place_of a in
    let p = a.packet.path in
    let ss = p.segments in
    let n = length w.segments in
    let on = o.on in
    let n_segment = on.segment in
    let n_position = on.position in
    let entered = o.entered in
    let external = o.external in
    let count = o.ids.count in
    let size = size_is o.ids at.segment in
    let len = back_len ss in
    let len_w = back_len w.segments in
    let k = n - 1 - at.segment in
    let size_b = back_size ss k (omega arith) in
    let size_w = back_size w.segments k (omega arith) in
    let same : length ss - 1 - k ≡ at.segment = omega arith in
    let same_w : n - 1 - k ≡ at.segment = omega arith in
    let hops_b : hops_in (back ss) k ≡ hops_in ss at.segment = size_b ∙ ap (hops_in ss) same in
    let hops_w : hops_in (back w.segments) k ≡ hops_in w.segments at.segment = size_w ∙ ap (hops_in w.segments) same_w in
    let to : Place = place_at k (hops_in w.segments at.segment - at.position) in
    let m : Place = mirrored ss at in
    let m_segment : m.segment ≡ k = omega arith in
    let m_hops : hops_in (back ss) m.segment ≡ hops_in ss at.segment = ap (hops_in (back ss)) m_segment ∙ hops_b in
    let position : m.position + 1 ≡ hops_in w.segments at.segment - at.position = omega arith in
    let out : is_external a.link ≡ true = ap not (ne_eqb a.link 0 (λ none. absurd (omega arith))) in
    let follows : places.next (back ss) m ≡ Some to = next_inside (back ss) m (omega arith) ∙ ap (λ (x : Place). Some x) (ap₂ place_at m_segment position) in
    let before_segment : length (back w.segments) - 1 - k ≡ at.segment = omega arith in
    let before_position : hops_in (back w.segments) k - 1 - (hops_in w.segments at.segment - at.position) + 1 ≡ at.position = omega arith in
    let turn : turning_point a ≡ m = cond-true (is_external a.link) _ _ out in
    record {
      to = to;
      way_is = leaves a.link p to (or_left (is_external a.link) _ out) follows;
      on = record { segment = omega arith; position = omega arith };
      entered = omega arith;
      before = ap₂ place_at before_segment before_position;
      ids = λ id. ids_back w true true at to ss o.ids (omega arith) id;
      begun = inr (ap (λ (x : Place). x.segment) turn ∙ m_segment, subst (λ (x : Place). x.position < hops_in w.segments at.segment - at.position) (sym turn) (omega arith));
    }

module _ (net : Net) (w : Route) (from : Place) (a : PacketAt) (q : Packet) (o : StandsOutside net w from a)
    (path : q.path ≡ way_back a.link a.packet.path) (way : IsOnItsWay net (reversed_route w) (turning_point a) q) (t : TurnsOutside w a)
    (c : Crosses net w (mirrored (route_words.way_back w) t.to) (place_of a)) where
  over_the_wire : ReturnsOn net w a o.here q
  over_the_wire =
      let at = place_of a in
      let b : Route = reversed_route w in
      let before : Place = mirrored (route_words.way_back w) t.to in
      let out : is_external a.link ≡ true = let external = o.external in ap not (ne_eqb a.link 0 (λ none. absurd (omega arith))) in
      let into : way_in b t.to ≡ way_out w before = in_is_out w t.to t.on in
      let far : c.far ≡ o.here = same_router net (w.entered_by at) a.router c.far o.here c.far_there o.here_is (sym o.router) in
      let own : own_link o.here.network a.link ≡ Some c.into = ap₂ (λ (x : Router) (l : ℕ). own_link x.network l) (sym far) o.link ∙ c.into_is in
      let wire : Joined net (end_at (w.entered_by at) (way_in w at)) (end_at (w.left_by before) (way_out w before)) = elim c.wire [ inl one ↦ inr one | inr other ↦ inl other ] in
      let wire_1 : Joined net (end_at a.router a.link) (end_at (w.left_by before) (way_out w before)) =
      subst (λ (l : ℕ). Joined net (end_at a.router l) (end_at (w.left_by before) (way_out w before))) (sym o.link)
      (subst (λ (r : ℕ). Joined net (end_at r (way_in w at)) (end_at (w.left_by before) (way_out w before))) (sym o.router) wire) in
      let wire_2 : Joined net (end_at a.router a.link) (end_at (w.left_by before) (way_in b t.to)) =
      subst (λ (l : ℕ). Joined net (end_at a.router a.link) (end_at (w.left_by before) l)) (sym into) wire_1 in
      let next : PacketAt = record { router = w.left_by before; link = way_in b t.to; source = c.into.local; packet = record { header = q.header; path = back_at a.packet.path t.to; payload = q.payload } } in
      let same : next.packet ≡ q = ap (λ (x : PathFields). record { header = q.header; path = x; payload = q.payload }) (sym t.way_is ∙ sym path) in
      let carried : IsCarried net a.router o.here a.link None next = IsCarried.over_wire c.into own wire_2 refl in
      record {
        after = next;
        packet = same;
        carried = subst (λ (u : Option Underlay). IsCarried net a.router o.here a.link u next) (sym (cond-true (is_external a.link) _ _ out)) carried;
        stands = record {
          way = subst (λ (p : Packet). IsOnItsWay net (reversed_route w) (turning_point a) p) (sym same) way;
          there = inl (record {
            on = t.on;
            entered = t.entered;
            router = refl;
            link = refl;
            external = subst (λ (l : ℕ). 1 ≤ l) (sym into) c.out_there;
            here = c.near;
            here_is = c.near_there;
            home = c.near_home;
            own = c.out;
            own_is = ap (own_link c.near.network) into ∙ c.out_is;
            kind = c.out_kind;
            source = sym c.remote;
            ids = t.ids (sym c.ids ∙ sym (before_is_after w t.to t.on));
            begun = t.begun;
          });
        };
      }

outside_back : (net : Net) (w : Route) (from : Place) (moment : ℕ) (a : PacketAt) (q : Packet) → IsRoute net w moment → (o : StandsOutside net w from a)
    → q.path ≡ way_back a.link a.packet.path → IsOnItsWay net (reversed_route w) (turning_point a) q → ReturnsOn net w a o.here q
outside_back net w from moment a q route o path way =
    let t = turns_outside net w from a o in
    let before : Place = mirrored (route_words.way_back w) t.to in
    let on : IsOn w (after before) = subst (λ (x : Place). IsOn w x) (sym t.before) o.on in
    over_the_wire net w from a q o path way t (subst (λ (x : Place). Crosses net w before x) t.before (route.crosses before on))

-- ---- from inside

-- What the way back of a packet from inside is: the hop to which it leads, and that by which the packet entered.
pub record TurnsInside (w : Route) (a : PacketAt) : Type 0 where
  pub to : Place
  pub way_is : way_back a.link a.packet.path ≡ back_at a.packet.path to
  pub more : IsOn (reversed_route w) (after to)
  pub entry : mirrored (route_words.way_back w) to ≡ entry_place w.segments (place_of a)
  pub home : w.home (entry_place w.segments (place_of a)) ≡ w.home (place_of a)
  pub later : is_first_of_path to ≡ false
  pub exit : mirrored (route_words.way_back w) (entry_place (route_words.way_back w) to) ≡ place_of a
  pub on_exit : IsOn (reversed_route w) (entry_place (route_words.way_back w) to)
  pub ids : IdsStand (reversed_route w) false to (back a.packet.path.segments)

both_false : (x y : Bool) → y ≡ false → (x && y) ≡ false
both_false true y e = e
both_false false y e = refl

first_false : (x y : Bool) → x ≡ false → (x && y) ≡ false
first_false x y e = ap (λ (b : Bool). b && y) e

later_segment : (at : Place) → at.position ≡ 0 → is_first_of_path at ≡ false → 1 ≤ at.segment
later_segment at first later =
    elim (cases_eq at.segment 0) [
      | inl none ↦ let both : is_first_of_path at ≡ true = and_from _ _ (eq-eqb _ _ none) (eq-eqb _ _ first) in let never : true ≡ false = sym both ∙ later in absurd cc
      | inr some ↦ omega arith
    ]

module _ (net : Net) (w : Route) (from : Place) (moment : ℕ) (a : PacketAt) (route : IsRoute net w moment) (i : StandsInside net w from a) where
  -- at a hop that isn't the first of its segment, the same hop
  turns_within : 1 ≤ (place_of a).position → TurnsInside w a
  turns_within some =
      let at = place_of a in
      let p = a.packet.path in
      let ss = p.segments in
      let b : Route = reversed_route w in
      let n = length w.segments in
      let more = i.more in
      let m_segment = more.segment in
      let m_position = more.position in
      let count = i.ids.count in
      let size = size_is i.ids at.segment in
      let len = back_len ss in
      let len_w = back_len w.segments in
      let k = n - 1 - at.segment in
      let size_w = back_size w.segments k (omega arith) in
      let same_w : n - 1 - k ≡ at.segment = omega arith in
      let hops_w : hops_in (back w.segments) k ≡ hops_in w.segments at.segment = size_w ∙ ap (hops_in w.segments) same_w in
      let to : Place = place_at k (hops_in w.segments at.segment - 1 - at.position) in
      let inner : is_external a.link ≡ false = ap not (eq-eqb a.link 0 i.link) in
      let stays : leaves_the_hop a.link p ≡ false =
      ap₂ (λ (x y : Bool). x || (y && is_in_later_segment p)) inner (ne_eqb at.position 0 (λ none. absurd (omega arith))) in
      let k_is : length ss - 1 - at.segment ≡ k = omega arith in
      let i_is : hops_in ss at.segment - 1 - at.position ≡ hops_in w.segments at.segment - 1 - at.position = omega arith in
      let mirror : mirrored ss at ≡ to = ap₂ place_at k_is i_is in
      let back_k : length (back w.segments) - 1 - k ≡ at.segment = omega arith in
      let back_i : hops_in (back w.segments) k - 1 - (hops_in w.segments at.segment - 1 - at.position) ≡ at.position = omega arith in
      let there : mirrored (back w.segments) to ≡ at = ap₂ place_at back_k back_i in
      let entry : entry_place w.segments at ≡ at = cond-false (at.position == 0) _ _ (ne_eqb _ _ (λ none. absurd (omega arith))) in
      let entry_b : entry_place (back w.segments) to ≡ to = cond-false (to.position == 0) _ _ (ne_eqb _ _ (λ none. absurd (omega arith))) in
      let on : IsOn b to = record { segment = omega arith; position = omega arith } in
      record {
        to = to;
        way_is = keeps a.link p stays ∙ ap (λ (x : Place). back_at p x) mirror;
        more = record { segment = omega arith; position = omega arith };
        entry = there ∙ sym entry;
        home = ap w.home entry;
        later = both_false (k == 0) (to.position == 0) (ne_eqb _ _ (λ none. absurd (omega arith)));
        exit = ap (mirrored (back w.segments)) entry_b ∙ there;
        on_exit = subst (λ (x : Place). IsOn b x) (sym entry_b) on;
        ids = ids_back w false false at to ss i.ids (omega arith) (ap w.beta (sym there));
      }

  -- at the first hop of a later segment, the last one of the segment before
  turns_over : (place_of a).position ≡ 0 → 1 ≤ (place_of a).segment → TurnsInside w a
  turns_over first some =
      let at = place_of a in
      let p = a.packet.path in
      let ss = p.segments in
      let b : Route = reversed_route w in
      let n = length w.segments in
      let more = i.more in
      let m_segment = more.segment in
      let m_position = more.position in
      let count = i.ids.count in
      let size = size_is i.ids at.segment in
      let len = back_len ss in
      let len_w = back_len w.segments in
      let k = n - 1 - at.segment in
      let j = at.segment - 1 in
      let hops_j = route.hops j (omega arith) in
      let hops_at = route.hops at.segment (omega arith) in
      let size_w = back_size w.segments k (omega arith) in
      let same_w : n - 1 - k ≡ at.segment = omega arith in
      let hops_w : hops_in (back w.segments) k ≡ hops_in w.segments at.segment = size_w ∙ ap (hops_in w.segments) same_w in
      let size_j = back_size w.segments (k + 1) (omega arith) in
      let same_j : n - 1 - (k + 1) ≡ j = omega arith in
      let hops_wj : hops_in (back w.segments) (k + 1) ≡ hops_in w.segments j = size_j ∙ ap (hops_in w.segments) same_j in
      let m : Place = mirrored ss at in
      let m_k : m.segment ≡ k = omega arith in
      let size_b = back_size ss k (omega arith) in
      let same_b : length ss - 1 - k ≡ at.segment = omega arith in
      let m_hops : hops_in (back ss) m.segment ≡ hops_in ss at.segment = ap (hops_in (back ss)) m_k ∙ size_b ∙ ap (hops_in ss) same_b in
      let to : Place = place_at (k + 1) 0 in
      let goes : leaves_the_hop a.link p ≡ true =
      or_right (is_external a.link) _ (and_from _ _ (eq-eqb _ _ first) (ap not (ne_eqb at.segment 0 (λ none. absurd (omega arith))))) in
      let follows : places.next (back ss) m ≡ Some to = next_over (back ss) m (omega arith) (omega arith) ∙ ap (λ (x : ℕ). Some (place_at (x + 1) 0)) m_k in
      let back_k : length (back w.segments) - 1 - (k + 1) ≡ j = omega arith in
      let back_i : hops_in (back w.segments) (k + 1) - 1 - 0 ≡ hops_in w.segments j - 1 = omega arith in
      let there : mirrored (back w.segments) to ≡ last_in w j = ap₂ place_at back_k back_i in
      let entry : entry_place w.segments at ≡ last_in w j = cond-true (at.position == 0) _ _ (eq-eqb _ _ first) in
      let turn : Joins w (last_in w j) (place_at (j + 1) 0) = route.joins j (omega arith) in
      let j_is : j + 1 ≡ at.segment = omega arith in
      let at_is : place_at (j + 1) 0 ≡ at = ap₂ place_at j_is (sym first) in
      let e_segment : k + 1 - 1 ≡ k = omega arith in
      let e_hops : hops_in (back w.segments) (k + 1 - 1) ≡ hops_in (back w.segments) k = ap (hops_in (back w.segments)) e_segment in
      let e_k : length (back w.segments) - 1 - (k + 1 - 1) ≡ at.segment = omega arith in
      let e_i : hops_in (back w.segments) (k + 1 - 1) - 1 - (hops_in (back w.segments) (k + 1 - 1) - 1) ≡ at.position = omega arith in
      record {
        to = to;
        way_is = leaves a.link p to goes follows;
        more = record { segment = omega arith; position = omega arith };
        entry = there ∙ sym entry;
        home = ap w.home entry ∙ turn.home ∙ ap w.home at_is;
        later = first_false (k + 1 == 0) true (ne_eqb _ _ (λ none. absurd (omega arith)));
        exit = ap₂ place_at e_k e_i;
        on_exit = record { segment = omega arith; position = omega arith };
        ids = ids_back w false false (last_in w j) to ss (ids_under w at ss i.ids first some) (omega arith) (ap w.beta (sym there));
      }

  pub turns : IsUnderWay a → TurnsInside w a
  turns under =
      elim (cases_eq (place_of a).position 0) [
        | inl first ↦ turns_over first (later_segment (place_of a) first under)
        | inr some ↦ turns_within (omega arith)
      ]

module _ (net : Net) (w : Route) (from : Place) (moment : ℕ) (a : PacketAt) (q : Packet) (route : IsRoute net w moment) (i : StandsInside net w from a)
    (entered : IsFromEntry net w (place_of a) a) (under : IsUnderWay a) (path : q.path ≡ way_back a.link a.packet.path)
    (way : IsOnItsWay net (reversed_route w) (turning_point a) q) where
  pub inside_back : ReturnsOn net w a i.here q
  inside_back =
      let at = place_of a in
      let b : Route = reversed_route w in
      let t : TurnsInside w a = turns net w from moment a route i under in
      let e : Place = entry_place w.segments at in
      let inner : is_external a.link ≡ false = ap not (eq-eqb a.link 0 i.link) in
      let c : Crosses net w at (after at) = route.crosses at i.more in
      let near : c.near ≡ i.here = same_router net (w.left_by at) a.router c.near i.here c.near_there i.here_is (sym i.router) in
      let e_b : Place = entry_place (route_words.way_back w) t.to in
      let out : way_in b e_b ≡ way_out w at = in_is_out w e_b t.on_exit ∙ ap (way_out w) t.exit in
      let next : PacketAt = record { router = b.left_by t.to; link = 0; source = i.here.internal; packet = record { header = q.header; path = back_at a.packet.path t.to; payload = q.payload } } in
      let taker_there : router_at net (b.left_by t.to) ≡ Some entered.taker = ap (λ (x : Place). router_at net (w.entered_by x)) t.entry ∙ entered.taker_is in
      let one = of_one_as i.here entered.taker w at i.home entered.home in
      let same : next.packet ≡ q = ap (λ (x : PathFields). record { header = q.header; path = x; payload = q.payload }) (sym t.way_is ∙ sym path) in
      let carried : IsCarried net a.router i.here 0 (Some a.source) next = IsCarried.within entered.taker taker_there one (sym entered.source) refl refl in
      let home_is : w.home (mirrored (route_words.way_back w) t.to) ≡ w.home at = ap w.home t.entry ∙ t.home in
      let turn : turning_point a ≡ t.to = cond-false (is_external a.link) _ _ inner ∙ ap (λ (x : PathFields). x.place) t.way_is in
      record {
        after = next;
        packet = same;
        carried = subst (λ (o : Option Underlay). IsCarried net a.router i.here a.link o next) (sym (cond-false (is_external a.link) _ _ inner))
            (subst (λ (l : ℕ). IsCarried net a.router i.here l (Some a.source) next) (sym i.link) carried);
        stands = record {
          way = subst (λ (p : Packet). IsOnItsWay net (reversed_route w) (turning_point a) p) (sym same) way;
          there = inr (record {
            more = t.more;
            router = refl;
            link = refl;
            here = entered.taker;
            here_is = taker_there;
            home = subst (λ d. IsOf entered.taker d) (sym home_is) entered.home;
            sender = inr (
              t.later,
              record {
                taker = i.here;
                taker_is = ap (λ (x : Place). router_at net (w.left_by x)) t.exit ∙ ap (router_at net) (sym i.router) ∙ i.here_is;
                home = subst (λ d. IsOf i.here d) (sym home_is) i.home;
                other = λ same. entered.other (i.router ∙ ap w.left_by (sym t.exit) ∙ sym same ∙ ap w.entered_by t.entry);
                own = c.out;
                own_is = ap₂ (λ (x : Router) (l : ℕ). own_link x.network l) (sym near) out ∙ c.out_is;
                source = refl;
              },
            );
            ids = t.ids;
            begun = inl turn;
          });
        };
      }

-- ---- either way

same_here : (net : Net) (r : ℕ) (x y : Router) → router_at net r ≡ Some x → router_at net r ≡ Some y → x ≡ y
same_here net r x y one other = same_router net r r x y one other refl

pub stands_back : (net : Net) (w : Route) (from : Place) (moment : ℕ) (a : PacketAt) (x : Router) (q : Packet) → IsRoute net w moment → Stands net w from a
    → router_at net a.router ≡ Some x → IsUnderWay a → q.path ≡ way_back a.link a.packet.path → IsOnItsWay net (reversed_route w) (turning_point a) q
    → ReturnsOn net w a x q
stands_back net w from moment a x q route stands here under path way =
    elim stands.there [
      | inl o ↦ subst (λ (y : Router). ReturnsOn net w a y q) (same_here net a.router o.here x o.here_is here) (outside_back net w from moment a q route o path way)
      | inr i ↦ elim i.sender [
        | inl first ↦ let never : true ≡ false = sym first.0 ∙ under in absurd cc
        | inr entered ↦
            subst (λ (y : Router). ReturnsOn net w a y q) (same_here net a.router i.here x i.here_is here)
            (inside_back net w from moment a q route i entered.1 under path way)
      ]
    ]
