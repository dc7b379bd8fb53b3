-- A packet that stands at the hop by which it leaves: how it leaves, and where it stands then.
use Rattle.std.proofs.Common.{◌&&◌, Bool, ◌≡◌, ◌≤◌, ◌<◌, ◌+◌, ◌*◌, ◌^◌, ◌⊎◌, ℕ, true, false, Option, Some, None, refl, sym, ap, ap₂, subst, ◌∙◌, arith, if◌then◌else◌, inl, inr}
use Rattle.std.specs.Prelude.{is_some, option_map}
use Rattle.std.proofs.lemmas.Bool.{cases_Bool, cond-false}
use Rattle.scion_packet.specs.Path.{HopField, Place, hop_number}
use Rattle.scion_packet.specs.Places.{is_last_of_segment}
use Rattle.segment_switch.specs.declared.kind.LinkKind.{LinkKind}
use Rattle.process_packet.specs.declared.neighbours.Link.{Link}
use Rattle.process_packet.specs.declared.neighbours.Sibling.{Sibling}
use Rattle.process_packet.specs.declared.underlay.Underlay.{Underlay}
use Rattle.process_packet.specs.Decide.{decision_table, ends_as}
use Rattle.process_packet.specs.Neighbours.{sibling_at}
use Rattle.process_packet.specs.Network.{kind_or, own_link, sibling}
use Rattle.process_packet.specs.Rows.{Sent, is_pair_lawful, known_pair}
use Rattle.process_packet.specs.Request.{is_request}
use Rattle.process_packet.specs.PacketView.{with_id}
use Rattle.process_packet.specs.PacketState.{PacketState, arrival_kind, chained_id, egress, egress_alert, entry_place, hop, is_along, is_first_of_path, is_last_of_path, next_place, packet}
use Rattle.net_laws.specs.Net.{Agrees, Joined, Net, Router, end_at, router_at}
use Rattle.net_laws.specs.Domain.{IsOf}
use Rattle.net_laws.proofs.NetLemmas.{ListsAt, listed_at}
use Rattle.net_laws.specs.Route.{IsBefore, Crosses, IsHopOf, IsOn, IsRoute, Route, after, way_in, way_out}
use Rattle.process_packet.proofs.Coming.{ComesAsItShould}
use Rattle.process_packet.specs.Shown.{StandsToLeave, asks_entry, asks_exit, is_for_us, packet_at, turned}
use Rattle.net_laws.specs.Stands.{PacketAt, IdsStand, IsOnItsWay, Stands}
use Rattle.net_laws.specs.Stop.{IsForwarded, IsAsked, IsCarried}
use Rattle.process_packet.proofs.RowsPassed.{replies_at_exit, sent_by_link, sent_to_sibling}
use Rattle.net_laws.proofs.IdLemmas.{hop_is, ids_left, size_is}
use Rattle.net_laws.proofs.ReadLemmas.{along_read, egress_read, end_read, not_last_of_segment, is_no_end, other_flag_read}
use Rattle.net_laws.proofs.ComesLemmas.{of_one_as}
use Rattle.net_laws.proofs.IdLemmas as chained_fits
use Rattle.process_packet.proofs.KeptLemmas.{IsKept, out_kept}

pub same_router : (net : Net) (r q : ℕ) (x y : Router) → router_at net r ≡ Some x → router_at net q ≡ Some y → r ≡ q → x ≡ y
same_router net r q x y one other same = let is : Some x ≡ Some y = sym one ∙ ap (router_at net) same ∙ other in cc

before_too : (from at : Place) → (from ≡ at) ⊎ IsBefore from at → IsBefore from (after at)
before_too from at (inl same) =
    let k : from.segment ≡ at.segment = ap (λ (p : Place). p.segment) same in
    let i : from.position ≡ at.position = ap (λ (p : Place). p.position) same in
    inr (k, omega arith)
before_too from at (inr (inl less)) = inl less
before_too from at (inr (inr both)) = let less = both.1 in inr (both.0, omega arith)

pub three_true : (x y z : Bool) → (x && y && z) ≡ true → (y ≡ true) × (z ≡ true)
three_true true true true e = (refl, refl)
three_true true true false e = absurd cc
three_true true false z e = absurd cc
three_true false y z e = absurd cc

-- What is known of a packet that stands at the hop by which it leaves, at any router of the hop's AS.
pub record AtItsExit (net : Net) (w : Route) (from : Place) (r : ℕ) (x : Router) (s u : PacketState) : Type 0 where
  pub comes : ComesAsItShould s
  pub others : is_for_us s ≡ false
  pub leaves : StandsToLeave (turned s) u
  pub network : u.network ≡ x.network
  pub here : router_at net r ≡ Some x
  pub home : IsOf x (w.home u.path.place)
  pub more : IsOn w (after u.path.place)
  pub ids : IdsStand w false u.path.place u.path.segments
  pub pair : known_pair u.switched (arrival_kind u) (Some (w.kind_out u.path.place)) ≡ true
  pub way : IsOnItsWay net w from (packet u)
  pub quiet : asks_entry s ≡ false
  pub begun : (from ≡ u.path.place) ⊎ IsBefore from u.path.place

module _ (net : Net) (w : Route) (from : Place) (moment : ℕ) (agrees : Agrees net) (route : IsRoute net w moment) (r : ℕ) (x : Router) (s u : PacketState)
    (e : AtItsExit net w from r x s u) where
  out_read : egress u ≡ way_out w u.path.place
  out_read = egress_read w false u.path.place u.path.segments e.ids

  pair_right : (l : Option Link) (b : Option Sibling) → own_link u.network (egress u) ≡ l → sibling u.network (egress u) ≡ b
      → kind_or l b ≡ Some (w.kind_out u.path.place) → is_pair_lawful u ≡ true
  pair_right l b own listed kind =
      ap (λ (k : Option LinkKind). known_pair u.switched (arrival_kind u) k) (ap₂ kind_or own listed ∙ kind) ∙ e.pair

  -- where its hop field asks the router there to answer
  pub asked_at_exit : asks_exit u ≡ true → is_pair_lawful u ≡ true → IsAsked w u.header.next_header u.payload (ends_as s decision_table)
  asked_at_exit asks pair =
      let parts = three_true (is_some (own_link u.network (egress u))) (egress_alert u) (is_request u.header.next_header u.payload) asks in
      record {
        interface = egress u;
        verdict = replies_at_exit s u e.comes e.quiet e.others e.leaves pair asks;
        at = u.path.place;
        on = (let more = e.more in record { segment = more.segment; position = omega arith });
        flag = subst (λ (h : HopField). (h.ingress_alert ≡ true) ⊎ (h.egress_alert ≡ true)) (hop_is e.ids u.path.place) (other_flag_read (is_along u) (hop u) parts.0);
        request = parts.1;
      }

  -- by its own link
  goes_by_link : (m : ℕ) → m ≤ 2 * hop_number w.segments u.path.place + 1 → r ≡ w.left_by u.path.place → asks_exit u ≡ false → IsForwarded net w r x m (is_for_us s) (ends_as s decision_table) (Stands net w from)
  goes_by_link m far mine still =
      let at = u.path.place in
      let ss = u.path.segments in
      let c : Crosses net w at (after at) = route.crosses at e.more in
      let more = e.more in
      let same : c.near ≡ x = same_router net (w.left_by at) r c.near x c.near_there e.here (sym mine) in
      let own : own_link u.network (egress u) ≡ Some c.out =
      ap₂ own_link (e.network ∙ ap (λ (y : Router). y.network) (sym same)) out_read ∙ c.out_is in
      let own_x : own_link x.network (way_out w at) ≡ Some c.out = ap (λ (y : Router). own_link y.network (way_out w at)) (sym same) ∙ c.out_is in
      let vs = with_id (if is_along u then Some (chained_id u) else None) at.segment ss in
      let pair = pair_right (Some c.out) (sibling u.network (egress u)) own refl (ap (λ (k : LinkKind). Some k) c.out_kind) in
      let further : next_place ss at ≡ after at = cond-false (is_last_of_segment ss at) _ _ (not_last_of_segment ss at (subst (λ (n : ℕ). at.position + 1 < n) (sym (size_is e.ids at.segment)) more.position)) in
      let no_end : is_last_of_path u ≡ false = end_read w false at ss e.ids ∙ is_no_end w.segments at more.position in
      let on : IsOn w at = record { segment = more.segment; position = omega arith } in
      let hop_here : IsHopOf net w moment at = route.hop at on in
      let fits = λ (along : is_along u ≡ true).
      subst (λ (n : ℕ). n < 2 ^ 16) (sym (chained_fits.chained_id w at ss e.ids (sym (along_read w false at ss e.ids) ∙ along))) hop_here.fits_after in
      let count = e.ids.count in
      let size = size_is e.ids at.segment in
      let more_segment = more.segment in
      let more_position = more.position in
      let kept : IsKept (packet u) (packet_at u (after at) vs) = out_kept (packet u) (is_along u) (chained_id u) (after at) fits (omega arith) (omega arith) e.way.lawful in
      let next : PacketAt = record { router = w.entered_by (after at); link = way_in w (after at); source = c.out.local; packet = packet_at u (after at) vs } in
      record {
        others = e.others;
        out = way_out w at;
        to = None;
        after = next;
        verdict = sent_by_link s u e.comes e.quiet e.others e.leaves pair still (ap (λ (l : Option Link). is_some l) own) no_end
            ∙ ap₂ (λ (id : ℕ) (p : Place). Sent id None (packet_at u p vs)) out_read further;
        carried = IsCarried.over_wire c.out own_x (subst (λ (n : ℕ). Joined net (end_at n (way_out w at)) (end_at (w.entered_by (after at)) (way_in w (after at)))) (sym mine) c.wire) refl;
        farther = omega arith;
        stands = record {
          way = record { lawful = kept.lawful; short = subst (λ (n : ℕ). n ≤ 9216) (sym kept.length) e.way.short; whole = e.way.whole; addressed = e.way.addressed };
          there = inl (record {
            on = more;
            entered = omega arith;
            router = refl;
            link = refl;
            external = c.into_there;
            here = c.far;
            here_is = c.far_there;
            home = c.far_home;
            own = c.into;
            own_is = c.into_is;
            kind = c.into_kind;
            source = sym c.remote_back;
            ids = ids_left w (is_along u) at ss e.ids more.segment (along_read w false at ss e.ids) c.ids;
            begun = before_too from at e.begun;
          });
        };
      }

  pub exits_by_link : (m : ℕ) → m ≤ 2 * hop_number w.segments u.path.place + 1 → r ≡ w.left_by u.path.place
      → IsForwarded net w r x m (is_for_us s) (ends_as s decision_table) (Stands net w from) ⊎ IsAsked w u.header.next_header u.payload (ends_as s decision_table)
  exits_by_link m far mine =
      let at = u.path.place in
      let c : Crosses net w at (after at) = route.crosses at e.more in
      let same : c.near ≡ x = same_router net (w.left_by at) r c.near x c.near_there e.here (sym mine) in
      let own : own_link u.network (egress u) ≡ Some c.out =
      ap₂ own_link (e.network ∙ ap (λ (y : Router). y.network) (sym same)) out_read ∙ c.out_is in
      let pair = pair_right (Some c.out) (sibling u.network (egress u)) own refl (ap (λ (k : LinkKind). Some k) c.out_kind) in
      elim (cases_Bool (asks_exit u)) [ inl asks ↦ inr (asked_at_exit asks pair) | inr still ↦ inl (goes_by_link m far mine still) ]

  -- to the router of the AS that has the link
  pub exits_to_sibling : (m : ℕ) → m ≤ 2 * hop_number w.segments u.path.place → (r ≡ w.left_by u.path.place → ⊥) → r ≡ w.entered_by (entry_place w.segments u.path.place) → is_first_of_path u.path.place ≡ false
      → (own : Link) → own_link x.network (way_in w (entry_place w.segments u.path.place)) ≡ Some own
      → IsForwarded net w r x m (is_for_us s) (ends_as s decision_table) (Stands net w from)
  exits_to_sibling m far other taken later own own_is =
      let at = u.path.place in
      let ss = u.path.segments in
      let c : Crosses net w at (after at) = route.crosses at e.more in
      let one = of_one_as x c.near w at e.home c.near_home in
      let listed : ListsAt x c.near (way_out w at) c.out = listed_at x c.near (way_out w at) c.out ((agrees.within r (w.left_by at) x c.near e.here c.near_there one).siblings other) c.out_is in
      let none : own_link u.network (egress u) ≡ None = ap₂ own_link e.network out_read ∙ listed.not_own in
      let entry : sibling u.network (egress u) ≡ Some listed.entry = ap₂ sibling e.network out_read ∙ listed.listed in
      let pair = pair_right None (Some listed.entry) none entry (ap (λ (k : LinkKind). Some k) (listed.kind ∙ c.out_kind)) in
      let next : PacketAt = record { router = w.left_by at; link = 0; source = x.internal; packet = packet u } in
      record {
        others = e.others;
        out = 0;
        to = Some c.near.internal;
        after = next;
        verdict = sent_to_sibling s u listed.entry.at e.comes e.quiet e.others e.leaves pair none (ap (λ (b : Option Sibling). option_map sibling_at b) entry)
            ∙ ap (λ (a : Underlay). Sent 0 (Some a) (packet u)) listed.at;
        carried = IsCarried.within c.near c.near_there one refl refl refl;
        farther = omega arith;
        stands = record {
          way = e.way;
          there = inr (record {
            more = e.more;
            router = refl;
            link = refl;
            here = c.near;
            here_is = c.near_there;
            home = c.near_home;
            sender = inr (
              later,
              record {
                taker = x;
                taker_is = ap (router_at net) (sym taken) ∙ e.here;
                home = e.home;
                other = λ same. other (taken ∙ sym same);
                own = own;
                own_is = own_is;
                source = refl;
              },
            );
            ids = e.ids;
            begun = e.begun;
          });
        };
      }
