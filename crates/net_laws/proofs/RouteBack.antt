-- A route travelled back is a route.
use Rattle.std.proofs.Common.{◌≡◌, ◌≤◌, ◌<◌, ◌+◌, ◌-◌, ◌^◌, ℕ, Bool, true, false, not, length, refl, sym, ap, ap₂, subst, ◌∙◌, arith, if◌then◌else◌, inl, inr}
use Rattle.hop_check.specs.Expiry.{is_expired}
use Rattle.hop_check.specs.Mac.{chain, mac6}
use Rattle.scion_packet.specs.Path.{HopField, InfoField, Place, hops_in, place_at}
use Rattle.scion_packet.specs.Places.{mirrored}
use Rattle.scion_packet.specs.Reversed.{cleared_hop, reversed_info}
use Rattle.segment_switch.specs.Pairs.{changes_over, goes_straight}
use Rattle.process_packet.specs.Network.{own_link}
use Rattle.net_laws.specs.Net.{Joined, Net, end_at}
use Rattle.net_laws.specs.Route.{AreJoined, Crosses, IsBefore, IsHopOf, IsOn, IsRoute, Joins, Route, after, hop_of, id_before, id_after, info_of, last_in, reversed_route, way_back, way_in, way_out}
use Rattle.net_laws.proofs.BackLemmas.{back_count, back_hop, back_info, back_len, back_size, in_back, out_back, over_back, straight_back}

module _ (w : Route) where
  abbrev there : Place → Place
  there at = mirrored (way_back w) at

  abbrev b : Route
  b = reversed_route w

  pub on_back : (at : Place) → IsOn b at → IsOn w (there at)
  on_back at on =
      let len = back_len w.segments in
      let size = back_size w.segments at.segment (let k = on.segment in omega arith) in
      let k : length (way_back w) - 1 - at.segment ≡ length w.segments - 1 - at.segment = omega arith in
      let same = ap (hops_in w.segments) k in
      record { segment = let k' = on.segment in omega arith; position = let i = on.position in omega arith }

  -- the hop before, on the way back, is the one after
  pub after_back : (at : Place) → IsOn b (after at) → after (there (after at)) ≡ there at
  after_back at on =
      let i : hops_in (way_back w) at.segment - 1 - (at.position + 1) + 1 ≡ hops_in (way_back w) at.segment - 1 - at.position = let i = on.position in omega arith in
      ap (λ (n : ℕ). place_at (length (way_back w) - 1 - at.segment) n) i

  on_before : (at : Place) → IsOn b (after at) → IsOn b at
  on_before at on = record { segment = on.segment; position = let i = on.position in omega arith }

  segment_back : (at : Place) → IsOn b at → at.segment < length w.segments
  segment_back at on = let len = back_len w.segments in let k = on.segment in omega arith

  info_is : (at : Place) → IsOn b at → info_of b at ≡ reversed_info (info_of w (there at))
  info_is at on = back_info w.segments at (segment_back at on)

  hop_is : (at : Place) → IsOn b at → hop_of b at ≡ cleared_hop (hop_of w (there at))
  hop_is at on = back_hop w.segments at (segment_back at on) on.position

  pub out_is_in : (at : Place) → IsOn b at → way_out b at ≡ way_in w (there at)
  out_is_in at on =
      ap₂ (λ (i : InfoField) (h : HopField). if i.along then h.construction_egress else h.construction_ingress) (info_is at on) (hop_is at on)
      ∙ out_back (info_of w (there at)) (hop_of w (there at))

  pub in_is_out : (at : Place) → IsOn b at → way_in b at ≡ way_out w (there at)
  in_is_out at on =
      ap₂ (λ (i : InfoField) (h : HopField). if i.along then h.construction_ingress else h.construction_egress) (info_is at on) (hop_is at on)
      ∙ in_back (info_of w (there at)) (hop_of w (there at))

  either : (c : Bool) (x y : ℕ) → (if not c then y else x) ≡ (if c then x else y)
  either true x y = refl
  either false x y = refl

  pub before_is_after : (at : Place) → IsOn b at → id_before b at ≡ id_after w (there at)
  before_is_after at on =
      let v = there at in
      ap₂ (λ (i : InfoField) (h : HopField). if i.along then w.beta v else chain (w.beta v) h.mac) (info_is at on) (hop_is at on)
      ∙ either (info_of w v).along (chain (w.beta v) (hop_of w v).mac) (w.beta v)

  pub after_is_before : (at : Place) → IsOn b at → id_after b at ≡ id_before w (there at)
  after_is_before at on =
      let v = there at in
      ap₂ (λ (i : InfoField) (h : HopField). if i.along then chain (w.beta v) h.mac else w.beta v) (info_is at on) (hop_is at on)
      ∙ either (info_of w v).along (w.beta v) (chain (w.beta v) (hop_of w v).mac)

  module _ (net : Net) (moment : ℕ) (route : IsRoute net w moment) where
    hop_back : (at : Place) → IsOn b at → IsHopOf net b moment at
    hop_back at on =
        let v = there at in
        let h : IsHopOf net w moment v = route.hop v (on_back at on) in
        record {
          mac = ap (λ (x : HopField). x.mac) (hop_is at on) ∙ h.mac
              ∙ sym (ap₂ (λ (i : InfoField) (x : HopField). mac6 (w.key v) (w.beta v) i x) (info_is at on) (hop_is at on));
          unexpired = ap₂ (λ (i : InfoField) (x : HopField). is_expired i x moment) (info_is at on) (hop_is at on) ∙ h.unexpired;
          key = h.key;
          fits = h.fits;
          fits_before = subst (λ (n : ℕ). n < 2 ^ 16) (sym (before_is_after at on)) h.fits_after;
          fits_after = subst (λ (n : ℕ). n < 2 ^ 16) (sym (after_is_before at on)) h.fits_before;
        }

    crosses_back : (at : Place) → IsOn b (after at) → Crosses net b at (after at)
    crosses_back at on =
        let v = there (after at) in
        let on-at = on_before at on in
        let on-v = on_back (after at) on in
        let on-after : IsOn w (after v) = subst (λ (p : Place). IsOn w p) (sym (after_back at on)) (on_back at on-at) in
        let c : Crosses net w v (there at) = subst (λ (p : Place). Crosses net w v p) (after_back at on) (route.crosses v on-after) in
        let out = out_is_in at on-at in
        let into = in_is_out (after at) on in
        let joined : Joined net (end_at (w.entered_by (there at)) (way_in w (there at))) (end_at (w.left_by v) (way_out w v)) = elim c.wire [ inl one ↦ inr one | inr other ↦ inl other ] in
        record {
          near = c.far;
          far = c.near;
          near_there = c.far_there;
          far_there = c.near_there;
          near_home = c.far_home;
          far_home = c.near_home;
          out = c.into;
          into = c.out;
          out_is = ap (own_link c.far.network) out ∙ c.into_is;
          into_is = ap (own_link c.near.network) into ∙ c.out_is;
          out_kind = c.into_kind;
          into_kind = c.out_kind;
          wire = subst (λ (n : ℕ). Joined net (end_at (w.entered_by (there at)) n) (end_at (w.left_by v) (way_in b (after at)))) (sym out)
              (subst (λ (n : ℕ). Joined net (end_at (w.entered_by (there at)) (way_in w (there at))) (end_at (w.left_by v) n)) (sym into) joined);
          remote = c.remote_back;
          remote_back = c.remote;
          out_there = subst (λ (n : ℕ). 1 ≤ n) (sym out) c.into_there;
          into_there = subst (λ (n : ℕ). 1 ≤ n) (sym into) c.out_there;
          ids = after_is_before at on-at ∙ sym c.ids ∙ sym (before_is_after (after at) on);
        }

    straight : (at : Place) → IsOn b (after at) → 1 ≤ at.position → goes_straight (b.kind_in at) (b.kind_out at) ≡ true
    straight at on some =
        let v = there at in
        let on-at = on_before at on in
        let on-v = on_back at on-at in
        let len = back_len w.segments in
        let size = back_size w.segments at.segment (segment_back at on-at) in
        let k : length (way_back w) - 1 - at.segment ≡ length w.segments - 1 - at.segment = omega arith in
        let same = ap (hops_in w.segments) k in
        let i = on.position in
        let next : IsOn w (after v) = record { segment = on-v.segment; position = omega arith } in
        straight_back (w.kind_out v) (w.kind_in v) ∙ route.straight v next (omega arith)

    joins_back : (k : ℕ) → k + 1 < length (way_back w) → Joins b (last_in b k) (place_at (k + 1) 0)
    joins_back k more =
        let len = back_len w.segments in
        let j = length w.segments - 1 - (k + 1) in
        let size = back_size w.segments (k + 1) (omega arith) in
        let some = route.hops j (omega arith) in
        let some' = route.hops (length w.segments - 1 - k) (omega arith) in
        let size' = back_size w.segments k (omega arith) in
        let turn : Joins w (last_in w j) (place_at (j + 1) 0) = route.joins j (omega arith) in
        let segment : length (way_back w) - 1 - k ≡ j + 1 = omega arith in
        let position : hops_in (way_back w) k - 1 - (hops_in (way_back w) k - 1) ≡ 0 = omega arith in
        let first : there (last_in b k) ≡ place_at (j + 1) 0 = ap₂ place_at segment position in
        let segment' : length (way_back w) - 1 - (k + 1) ≡ j = omega arith in
        let position' : hops_in (way_back w) (k + 1) - 1 - 0 ≡ hops_in w.segments j - 1 = omega arith in
        let last : there (place_at (k + 1) 0) ≡ last_in w j = ap₂ place_at segment' position' in
        record {
          home = ap w.home first ∙ sym turn.home ∙ ap w.home (sym last);
          key = ap w.key first ∙ sym turn.key ∙ ap w.key (sym last);
          pair = ap₂ (λ (p q : Place). changes_over (w.kind_out p) (w.kind_in q)) first last ∙ over_back (w.kind_out (place_at (j + 1) 0)) (w.kind_in (last_in w j)) ∙ turn.pair;
        }

    apart_back : (p q : Place) → IsOn b p → IsOn b q → IsBefore p q → b.home p ≡ b.home q → AreJoined b p q
    apart_back p q on-p on-q before same =
        let len = back_len w.segments in
        let on-p' = on_back p on-p in
        let on-q' = on_back q on-q in
        let p-there = on-p.segment in
        let q-there = on-q.segment in
        let p-inside = on-p.position in
        let q-inside = on-q.position in
        let size-q = back_size w.segments q.segment (omega arith) in
        let k : length (way_back w) - 1 - q.segment ≡ length w.segments - 1 - q.segment = omega arith in
        let size = ap (hops_in w.segments) k in
        let sizes = λ (e : p.segment ≡ q.segment). ap (hops_in (way_back w)) e in
        let before' : IsBefore (there q) (there p) = elim before [
          | inl less ↦ inl (omega arith)
          | inr both ↦ let e = both.0 in let less = both.1 in let s = sizes e in
              inr (let e' : length (way_back w) - 1 - q.segment ≡ length (way_back w) - 1 - p.segment = omega arith in e', omega arith)
        ] in
        let j : AreJoined w (there q) (there p) = route.apart (there q) (there p) on-q' on-p' before' (sym same) in
        let last = j.last in
        let next = j.next in
        let first = j.first in
        record { last = omega arith; next = omega arith; first = omega arith }

    pub route_back : IsRoute net b moment
    route_back =
        let len = back_len w.segments in
        let some = route.some in
        let few = route.few in
        let all = route.all_hops in
        let count = back_count w.segments in
        record {
          some = omega arith;
          few = omega arith;
          hops = λ k there. let size = back_size w.segments k (omega arith) in let two = route.hops (length w.segments - 1 - k) (omega arith) in omega arith;
          all_hops = omega arith;
          hop = hop_back;
          straight = straight;
          crosses = crosses_back;
          apart = apart_back;
          joins = joins_back;
        }
