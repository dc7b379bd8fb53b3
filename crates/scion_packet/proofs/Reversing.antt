-- The way back over a path meets the same hops in the other order.
use Rattle.std.proofs.Common.{◌≡◌, ◌≤◌, ◌<◌, ℕ, zero, suc, ◌+◌, ◌-◌, None, Some, List, [], ◌∷◌, length, map, reverse, slice_index_or, refl, subst, ap, sym, ◌∙◌, arith, inl, inr}
use Rattle.std.specs.List.{AllByRecursion}
use Rattle.std.proofs.lemmas.Bool.{cases_lt, cond-false, cond-true, le-ltb, lt-ltb}
use Rattle.std.proofs.lemmas.List.{get_or-map, get_or-reverse, length-map, length-reverse}
use Rattle.scion_packet.specs.Path.{IsPath, IsSegment, PathFields, Place, Segment, hops_in, place_at}
use Rattle.scion_packet.specs.Places.{mirrored, next, no_segment}
use Rattle.scion_packet.specs.Reversed.{cleared_hop, reversed_path, reversed_segment}
use Rattle.scion_packet.proofs.Offsets.{hops_in_is}

abbrev back : List Segment → List Segment
back ss = map reversed_segment (reverse ss)

back_len : (ss : List Segment) → length (back ss) ≡ length ss
back_len ss = length-map (reverse ss) reversed_segment ∙ length-reverse ss

-- a segment has as many hops on the way back
back_size : (ss : List Segment) (k j : ℕ) → j + k + 1 ≡ length ss → hops_in (back ss) j ≡ hops_in ss k
back_size ss k j at =
    let there : j < length (reverse ss) = omega (arith, length-reverse ss) in
    let there' : j < length ss = omega arith in
    let other : length ss - 1 - j ≡ k = omega arith in
    let segment = slice_index_or ss k no_segment in
    hops_in_is (back ss) j
    ∙ ap (λ (s : Segment). length s.hops) (get_or-map reversed_segment (reverse ss) j no_segment no_segment there)
    ∙ ap (λ (s : Segment). length (reversed_segment s).hops) (get_or-reverse ss j no_segment there' ∙ ap (λ n. slice_index_or ss n no_segment) other)
    ∙ length-map (reverse segment.hops) cleared_hop
    ∙ length-reverse segment.hops
    ∙ sym (hops_in_is ss k)

some_hop : (ss : List Segment) (k : ℕ) → AllByRecursion IsSegment ss → k < length ss → 1 ≤ hops_in ss k
some_hop [] k are there = absurd (omega arith)
some_hop (s ∷ ss) zero are there = are.0.some
some_hop (s ∷ ss) (suc k) are there = some_hop ss k are.1 (omega arith)

no_hops : (ss : List Segment) (k : ℕ) → length ss ≤ k → hops_in ss k ≡ 0
no_hops [] k past = refl
no_hops (s ∷ ss) zero past = absurd (omega arith)
no_hops (s ∷ ss) (suc k) past = no_hops ss k (omega arith)

-- ---- the next hop, by its place

next_inside : (ss : List Segment) (k i : ℕ) → i + 1 < hops_in ss k → next ss (place_at k i) ≡ Some (place_at k (i + 1))
next_inside ss k i more = cond-true _ _ _ (lt-ltb _ _ more)

next_over : (ss : List Segment) (k i : ℕ) → hops_in ss k ≤ i + 1 → k + 1 < length ss → next ss (place_at k i) ≡ Some (place_at (k + 1) 0)
next_over ss k i last more = cond-false _ _ _ (le-ltb _ _ last) ∙ cond-true _ _ _ (lt-ltb _ _ more)

next_none : (ss : List Segment) (k i : ℕ) → hops_in ss k ≤ i + 1 → length ss ≤ k + 1 → next ss (place_at k i) ≡ None
next_none ss k i last end = cond-false _ _ _ (le-ltb _ _ last) ∙ cond-false _ _ _ (le-ltb _ _ end)

same : (k k' i i' : ℕ) → k ≡ k' → i ≡ i' → Some (place_at k i) ≡ Some (place_at k' i')
same k k' i i' e f = cc

-- ---- one step

back_inside : (ss : List Segment) (k i : ℕ) → k < length ss → i + 1 < hops_in ss k → next (back ss) (mirrored ss (place_at k (i + 1))) ≡ Some (mirrored ss (place_at k i))
back_inside ss k i there more =
    let j = length ss - 1 - k in
    let at = hops_in ss k - 1 - (i + 1) in
    let size = back_size ss k j (omega arith) in
    next_inside (back ss) j at (omega (arith, size)) ∙ same j j (at + 1) (hops_in ss k - 1 - i) refl (omega arith)

back_over : (ss : List Segment) (k i : ℕ) → k + 1 < length ss → i < hops_in ss k → hops_in ss k ≤ i + 1 → next (back ss) (mirrored ss (place_at (k + 1) 0)) ≡ Some (mirrored ss (place_at k i))
back_over ss k i there inside last =
    let j = length ss - 1 - (k + 1) in
    let at = hops_in ss (k + 1) - 1 - 0 in
    let size = back_size ss (k + 1) j (omega arith) in
    let len = back_len ss in
    next_over (back ss) j at (omega (arith, size)) (omega (arith, len)) ∙ same (j + 1) (length ss - 1 - k) 0 (hops_in ss k - 1 - i) (omega arith) (omega arith)

pub back_steps : (p : PathFields) (at after : Place) → IsPath p → at.position < hops_in p.segments at.segment → next p.segments at ≡ Some after
    → next (reversed_path p).segments (mirrored p.segments after) ≡ Some (mirrored p.segments at)
back_steps p at after lawful inside follows =
    let ss = p.segments in
    let k = at.segment in
    let i = at.position in
    let from = λ (place : Place) (is : next ss at ≡ Some place) (step : next (back ss) (mirrored ss place) ≡ Some (mirrored ss at)).
    let same : place ≡ after = cc (is, follows) in subst (λ (q : Place). next (back ss) (mirrored ss q) ≡ Some (mirrored ss at)) same step in
    elim (cases_lt k (length ss)) [
      | inl there ↦ elim (cases_lt (i + 1) (hops_in ss k)) [
        | inl more ↦ from (place_at k (i + 1)) (next_inside ss k i more) (back_inside ss k i there more)
        | inr last ↦ elim (cases_lt (k + 1) (length ss)) [
          | inl followed ↦ from (place_at (k + 1) 0) (next_over ss k i last followed) (back_over ss k i followed inside last)
          | inr end ↦ let none : next ss at ≡ None = next_none ss k i last end in absurd (cc (none, follows))
        ]
      ]
      | inr past ↦ absurd (omega (arith, no_hops ss k past, inside))
    ]

pub back_ends : (p : PathFields) → IsPath p → next (reversed_path p).segments (mirrored p.segments (place_at 0 0)) ≡ None
back_ends p lawful =
    let ss = p.segments in
    let j = length ss - 1 - 0 in
    let some = lawful.some in
    let size = back_size ss 0 j (omega (arith, some)) in
    next_none (back ss) j (hops_in ss 0 - 1 - 0) (omega (arith, size)) (omega (arith, back_len ss))
