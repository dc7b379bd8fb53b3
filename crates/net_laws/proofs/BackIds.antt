-- The identifiers of a packet on a route are those of its answer on the way back.
use Rattle.std.proofs.Common.{◌≡◌, ◌≤◌, ◌+◌, ◌-◌, ℕ, Bool, false, List, length, map, reverse, refl, sym, ap, ap₂, ◌∙◌, arith, inl, inr}
use Rattle.std.proofs.lemmas.Bool.{cases_lt, cases_eq}
use Rattle.std.proofs.lemmas.List.{get_or_past}
use Rattle.scion_packet.specs.Path.{HopField, InfoField, Place, Segment, hops_in, place_at}
use Rattle.scion_packet.specs.Places.{info_there, no_segment}
use Rattle.scion_packet.specs.Reversed.{cleared_hop, reversed_info}
use Rattle.net_laws.specs.Route.{Route, info_of, last_in, reversed_route}
use Rattle.net_laws.specs.Stands.{IdsStand, hops_at, id_now, with_id_of}
use Rattle.net_laws.proofs.BackLemmas.{back, back_info, back_len, back_segment, back_size}

-- at the first hop of a later segment they are those of the hop before
pub ids_under : (w : Route) (at : Place) (ss : List Segment) → IdsStand w false at ss → at.position ≡ 0 → 1 ≤ at.segment
    → IdsStand w false (last_in w (at.segment - 1)) ss
ids_under w at ss stands first later = record {
  count = stands.count;
  hops = stands.hops;
  earlier = λ p lt. stands.earlier p (omega arith);
  here = λ p same.
      let k : p.segment ≡ at.segment - 1 = same in
      stands.earlier p (omega arith) ∙ ap (λ (n : ℕ). with_id_of (w.beta (last_in w n)) (info_of w p)) k;
  ahead = λ p lt below. elim (cases_eq p.segment at.segment) [
    | inl same ↦ stands.here p same ∙ ap (λ (n : ℕ). with_id_of n (info_of w p)) (ap w.beta (ap₂ place_at (sym same) first))
    | inr other ↦ stands.ahead p (omega arith) below
  ];
}

module _ (w : Route) (o o' : Bool) (at at' : Place) (ss : List Segment) (stands : IdsStand w o at ss) (mirror : at.segment + at'.segment + 1 ≡ length w.segments)
    (id : id_now w o at ≡ id_now (reversed_route w) o' at') where
  -- the info field of segment k, and that of the way back
  info_turned : (x k : ℕ) (p : Place) → k + p.segment + 1 ≡ length w.segments → info_there ss (place_at k 0) ≡ with_id_of x (info_of w (place_at k 0))
      → info_there (back ss) p ≡ with_id_of x (info_of (reversed_route w) p)
  info_turned x k p other is =
      let count = stands.count in
      let len = back_len ss in
      let len' = back_len w.segments in
      let from : length (back ss) - 1 - p.segment ≡ k = omega arith in
      let to : length (back w.segments) - 1 - p.segment ≡ k = omega arith in
      back_info ss p (omega arith) ∙ ap (λ (n : ℕ). reversed_info (info_there ss (place_at n 0))) from ∙ ap reversed_info is
      ∙ ap (λ (i : InfoField). with_id_of x i) (sym (back_info w.segments p (omega arith) ∙ ap (λ (n : ℕ). reversed_info (info_there w.segments (place_at n 0))) to))

  hops_turned : (j : ℕ) → hops_at (back ss) j ≡ hops_at (back w.segments) j
  hops_turned j =
      let count = stands.count in
      let len = back_len ss in
      let len' = back_len w.segments in
      elim (cases_lt j (length w.segments)) [
        | inl there ↦
            let same : length ss - 1 - j ≡ length w.segments - 1 - j = omega arith in
            ap (λ (s : Segment). s.hops) (back_segment ss j (omega arith))
            ∙ ap (λ (hs : List HopField). map cleared_hop (reverse hs)) (ap (hops_at ss) same ∙ stands.hops (length w.segments - 1 - j))
            ∙ sym (ap (λ (s : Segment). s.hops) (back_segment w.segments j there))
        | inr past ↦
            ap (λ (s : Segment). s.hops) (get_or_past (back ss) j no_segment (omega arith))
            ∙ sym (ap (λ (s : Segment). s.hops) (get_or_past (back w.segments) j no_segment (omega arith)))
      ]

  pub ids_back : IdsStand (reversed_route w) o' at' (back ss)
  ids_back =
      let count = stands.count in
      let len = back_len ss in
      let len' = back_len w.segments in
      record {
        count = omega arith;
        hops = hops_turned;
        earlier = λ p lt.
            let k = length w.segments - 1 - p.segment in
            let segment : length (back w.segments) - 1 - p.segment ≡ k = omega arith in
            let position : hops_in (back w.segments) p.segment - 1 - (hops_in (back w.segments) p.segment - 1) ≡ 0 = omega arith in
            info_turned (w.beta (place_at k 0)) k p (omega arith) (stands.ahead (place_at k 0) (omega arith) (omega arith))
            ∙ ap (λ (n : ℕ). with_id_of n (info_of (reversed_route w) p)) (ap w.beta (sym (ap₂ place_at segment position)));
        here = λ p same.
            info_turned (id_now w o at) at.segment p (omega arith) (stands.here (place_at at.segment 0) refl)
            ∙ ap (λ (n : ℕ). with_id_of n (info_of (reversed_route w) p)) id;
        ahead = λ p lt below.
            let k = length w.segments - 1 - p.segment in
            let size = back_size w.segments p.segment (omega arith) in
            let segment : length (back w.segments) - 1 - p.segment ≡ k = omega arith in
            let position : hops_in (back w.segments) p.segment - 1 - 0 ≡ hops_in w.segments k - 1 = omega arith in
            info_turned (w.beta (last_in w k)) k p (omega arith) (stands.earlier (place_at k 0) (omega arith))
            ∙ ap (λ (n : ℕ). with_id_of n (info_of (reversed_route w) p)) (ap w.beta (sym (ap₂ place_at segment position)));
      }
