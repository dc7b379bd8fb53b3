-- Two stretches of two hops each that meet in one AS, and in no other one, are a path.
use Rattle.std.proofs.Common.{◌≡◌, ◌<◌, ◌+◌, ◌⊎◌, ℕ, zero, suc, true, List, [], ◌∷◌, length, refl, sym, ap, ◌∙◌, arith, inl, inr}
use Rattle.scion_packet.specs.Path.{place_at}
use Rattle.segment_switch.specs.Pairs.{changes_over}
use Rattle.net_laws.specs.Domain.{Domain}
use Rattle.net_laws.specs.Net.{Net}
use Rattle.net_laws.specs.PathSegments.{IsBeaconed, IsPathOver, PathSegment, kind_after, kind_before, met, part}

module _ (net : Net) (first second : PathSegment) where
  abbrev both : List PathSegment
  both = first ∷ second ∷ []

  abbrev home : ℕ → ℕ → Domain
  home k i = (met both (place_at k i)).home

  abbrev number : ℕ → ℕ → ℕ
  number k i = (home k i).autonomous_system

  module _ (first_is : IsBeaconed net first) (second_is : IsBeaconed net second) (first_two : length first.made ≡ 2) (second_two : length second.made ≡ 2)
      (changes : changes_over (kind_before first) (kind_after second) ≡ true) (one : home 0 1 ≡ home 1 0)
      (before : number 0 0 ≡ number 0 1 → ⊥) (after : number 1 0 ≡ number 1 1 → ⊥) (around : number 0 0 ≡ number 1 1 → ⊥) where
    beaconed : (k : ℕ) → k < 2 → IsBeaconed net (part both k)
    beaconed zero there = first_is
    beaconed (suc zero) there = second_is
    beaconed (suc (suc k)) there = absurd (omega arith)

    two : (k : ℕ) → k < 2 → length (part both k).made ≡ 2
    two zero there = first_two
    two (suc zero) there = second_two
    two (suc (suc k)) there = absurd (omega arith)

    pair : (k : ℕ) → k + 1 < 2 → changes_over (kind_before (part both k)) (kind_after (part both (k + 1))) ≡ true
    pair zero more = changes
    pair (suc k) more = absurd (omega arith)

    -- the joint: the second hop of the one and the first hop of the other
    meets : (k i l j : ℕ) → k < 2 → l < 2 → i + 1 ≡ 2 → k + 1 ≡ l → j ≡ 0 → home k i ≡ home l j
    meets zero (suc zero) (suc zero) zero p q r s t = one
    meets zero zero l j p q r s t = absurd (omega arith)
    meets zero (suc (suc i)) l j p q r s t = absurd (omega arith)
    meets zero (suc zero) zero j p q r s t = absurd (omega arith)
    meets zero (suc zero) (suc (suc l)) j p q r s t = absurd (omega arith)
    meets zero (suc zero) (suc zero) (suc j) p q r s t = absurd (omega arith)
    meets (suc k) i l j p q r s t = absurd (omega arith)

    one_number : number 0 1 ≡ number 1 0
    one_number = ap (λ (d : Domain). d.autonomous_system) one

    -- no AS twice within a stretch, and none of both but at the joint
    within : (k i j : ℕ) → k < 2 → i < j → j < 2 → number k i ≡ number k j → ⊥
    within zero zero (suc zero) k less there same = before same
    within (suc zero) zero (suc zero) k less there same = after same
    within (suc (suc n)) i j k less there same = absurd (omega arith)
    within zero zero zero k less there same = absurd (omega arith)
    within zero zero (suc (suc j)) k less there same = absurd (omega arith)
    within zero (suc i) j k less there same = absurd (omega arith)
    within (suc zero) zero zero k less there same = absurd (omega arith)
    within (suc zero) zero (suc (suc j)) k less there same = absurd (omega arith)
    within (suc zero) (suc i) j k less there same = absurd (omega arith)

    across : (i j : ℕ) → i < 2 → j < 2 → number 0 i ≡ number 1 j → (i ≡ 1) × (j ≡ 0)
    across zero zero p q same = absurd (before (same ∙ sym one_number))
    across zero (suc zero) p q same = absurd (around same)
    across zero (suc (suc j)) p q same = absurd (omega arith)
    across (suc zero) zero p q same = (refl, refl)
    across (suc zero) (suc zero) p q same = absurd (after (sym one_number ∙ same))
    across (suc zero) (suc (suc j)) p q same = absurd (omega arith)
    across (suc (suc i)) j p q same = absurd (omega arith)

    joint : (k i l j : ℕ) → k < 2 → l < 2 → i < 2 → j < 2 → (k < l) ⊎ ((k ≡ l) × (i < j)) → number k i ≡ number l j → (i + 1 ≡ 2) × ((k + 1 ≡ l) × (j ≡ 0))
    joint zero i (suc zero) j p q r s before same = let at = across i j r s same in let first = at.0 in (omega arith, (refl, at.1))
    joint zero i zero j p q r s before same = elim before [ inl less ↦ absurd (omega arith) | inr both ↦ absurd (within 0 i j p both.1 s same) ]
    joint (suc zero) i (suc zero) j p q r s before same = elim before [ inl less ↦ absurd (omega arith) | inr both ↦ absurd (within 1 i j p both.1 s same) ]
    joint (suc zero) i zero j p q r s before same = elim before [ inl less ↦ absurd (omega arith) | inr both ↦ let is = both.0 in absurd (omega arith) ]
    joint zero i (suc (suc l)) j p q r s before same = absurd (omega arith)
    joint (suc zero) i (suc (suc l)) j p q r s before same = absurd (omega arith)
    joint (suc (suc k)) i l j p q r s before same = absurd (omega arith)

    pub are_path : IsPathOver net both
    are_path = record {
      some = omega arith;
      few = omega arith;
      beaconed = beaconed;
      meets = λ a b on-a on-b joint.
          let n = two a.segment on-a.segment in
          let last = joint.last in
          meets a.segment a.position b.segment b.position on-a.segment on-b.segment (omega arith) joint.next joint.first;
      pair = pair;
      distinct = λ a b on-a on-b before same.
          let n-a = two a.segment on-a.segment in
          let n-b = two b.segment on-b.segment in
          let i-a = on-a.position in
          let i-b = on-b.position in
          let j = joint a.segment a.position b.segment b.position on-a.segment on-b.segment (omega arith) (omega arith) before (ap (λ (d : Domain). d.autonomous_system) same) in
          let last = j.0 in
          record { last = omega arith; next = j.1.0; first = j.1.1 };
    }
