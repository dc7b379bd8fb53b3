-- The sizes of one to three segments, and the three lengths that a path has for them.
use Rattle.std.proofs.Common.{◌≡◌, ◌≢◌, ◌≤◌, cond, ◌<◌, ◌&&◌, ◌||◌, ℕ, zero, suc, ◌+◌, true, leb, eqb, List, [], ◌∷◌, length, take, slice_index, refl, sym, subst, ◌∙◌, arith, inl, inr}
use Rattle.std.specs.List.{AllByRecursion}
use Rattle.std.proofs.lemmas.Bool.{cases_eq, cases_lt, eq-eqb, ne_eqb, eqb-true, leb-true, le-leb, lt-ltb, le-ltb, and_parts, and_from, or_cases, cond-true, cond-false}
use Rattle.std.proofs.lemmas.Bool.Decides.{nat_tests}
use Rattle.scion_packet.specs.Lengths.{are_lengths, first_hop, hop_count, segment_count, segment_of}
use Rattle.scion_packet.specs.Path.{IsSegment, Segment, count_hops, hops_in}

-- the lengths that a path has for its segments
abbrev pub sizes : List Segment → List ℕ
sizes ss = hops_in ss 0 ∷ hops_in ss 1 ∷ hops_in ss 2 ∷ []

-- The lengths are those of these segments.
pub record Sized (lengths : List ℕ) (ss : List Segment) : Type 0 where
  pub count : segment_count lengths ≡ length ss
  pub total : hop_count lengths ≡ count_hops ss
  pub lawful : count_hops ss ≤ 64 → are_lengths lengths ≡ true
  pub before : (k : ℕ) → k < length ss → first_hop lengths k ≡ count_hops (take k ss)
  pub within : (k : ℕ) → k < length ss → slice_index lengths k ≡ hops_in ss k
  pub segment : (k i : ℕ) → k < length ss → i < hops_in ss k → segment_of lengths (first_hop lengths k + i) ≡ k

count_more : (b : ℕ) → 1 ≤ b → (x y : ℕ) → cond (eqb b 0) x y ≡ y
count_more b some x y = let is : b ≢ 0 = omega arith in cond-false (eqb b 0) x y (ne_eqb b 0 is)

are_one : (a : ℕ) → 1 ≤ a → a ≤ 64 → are_lengths (a ∷ 0 ∷ 0 ∷ []) ≡ true
are_one a some few = and_from _ _ (and_from _ _ (le-leb 1 a some) refl) (le-leb _ 64 (omega arith))

are_two : (a b : ℕ) → 1 ≤ a → 1 ≤ b → a + b ≤ 64 → are_lengths (a ∷ b ∷ 0 ∷ []) ≡ true
are_two a b some more few =
    let second : (leb 1 b || true) ≡ true = rw (le-leb 1 b more) refl in
    and_from _ _ (and_from _ _ (le-leb 1 a some) second) (le-leb _ 64 (omega arith))

are_three : (a b c : ℕ) → 1 ≤ a → 1 ≤ b → a + b + c ≤ 64 → are_lengths (a ∷ b ∷ c ∷ []) ≡ true
are_three a b c some more few =
    let second : (leb 1 b || eqb c 0) ≡ true = rw (le-leb 1 b more) refl in
    and_from _ _ (and_from _ _ (le-leb 1 a some) second) (le-leb _ 64 few)

-- ---- the segment of a hop

pub in_first : (lengths : List ℕ) (h : ℕ) → h < slice_index lengths 0 → segment_of lengths h ≡ 0
in_first lengths h lt = cond-true _ _ _ (lt-ltb _ _ lt)

pub in_second : (lengths : List ℕ) (h : ℕ) → slice_index lengths 0 ≤ h → h < slice_index lengths 0 + slice_index lengths 1 → segment_of lengths h ≡ 1
in_second lengths h ge lt = cond-false _ _ _ (le-ltb _ _ ge) ∙ cond-true _ _ _ (lt-ltb _ _ lt)

pub in_third : (lengths : List ℕ) (h : ℕ) → slice_index lengths 0 + slice_index lengths 1 ≤ h → segment_of lengths h ≡ 2
in_third lengths h ge =
    let above : slice_index lengths 0 ≤ h = omega arith in
    cond-false _ _ _ (le-ltb _ _ above) ∙ cond-false _ _ _ (le-ltb _ _ ge)

-- ---- one, two and three segments

before_each : (s t u : Segment) (ss : List Segment) (k : ℕ) → k < 3 → first_hop (sizes (s ∷ t ∷ u ∷ ss)) k ≡ count_hops (take k (s ∷ t ∷ u ∷ ss))
before_each s t u ss zero lt = refl
before_each s t u ss (suc zero) lt = omega arith
before_each s t u ss (suc (suc zero)) lt = omega arith
before_each s t u ss (suc (suc (suc k))) lt = absurd (omega arith)

segment_each : (s t u : Segment) (ss : List Segment) (k i : ℕ) → k < 3 → i < hops_in (s ∷ t ∷ u ∷ ss) k
    → segment_of (sizes (s ∷ t ∷ u ∷ ss)) (first_hop (sizes (s ∷ t ∷ u ∷ ss)) k + i) ≡ k
segment_each s t u ss zero i lt inside = in_first (sizes (s ∷ t ∷ u ∷ ss)) (0 + i) (omega arith)
segment_each s t u ss (suc zero) i lt inside = in_second (sizes (s ∷ t ∷ u ∷ ss)) (length s.hops + i) (omega arith) (omega arith)
segment_each s t u ss (suc (suc zero)) i lt inside = in_third (sizes (s ∷ t ∷ u ∷ ss)) (length s.hops + length t.hops + i) (omega arith)
segment_each s t u ss (suc (suc (suc k))) i lt inside = absurd (omega arith)

within_each : (ss : List Segment) (k : ℕ) → k < 3 → slice_index (sizes ss) k ≡ hops_in ss k
within_each ss zero lt = refl
within_each ss (suc zero) lt = refl
within_each ss (suc (suc zero)) lt = refl
within_each ss (suc (suc (suc k))) lt = absurd (omega arith)

before_two : (s t : Segment) (k : ℕ) → k < 2 → first_hop (sizes (s ∷ t ∷ [])) k ≡ count_hops (take k (s ∷ t ∷ []))
before_two s t zero lt = refl
before_two s t (suc zero) lt = omega arith
before_two s t (suc (suc k)) lt = absurd (omega arith)

segment_two : (s t : Segment) (k i : ℕ) → k < 2 → i < hops_in (s ∷ t ∷ []) k → segment_of (sizes (s ∷ t ∷ [])) (first_hop (sizes (s ∷ t ∷ [])) k + i) ≡ k
segment_two s t zero i lt inside = in_first (sizes (s ∷ t ∷ [])) (0 + i) (omega arith)
segment_two s t (suc zero) i lt inside = in_second (sizes (s ∷ t ∷ [])) (length s.hops + i) (omega arith) (omega arith)
segment_two s t (suc (suc k)) i lt inside = absurd (omega arith)

before_one : (s : Segment) (k : ℕ) → k < 1 → first_hop (sizes (s ∷ [])) k ≡ count_hops (take k (s ∷ []))
before_one s zero lt = refl
before_one s (suc k) lt = absurd (omega arith)

segment_one : (s : Segment) (k i : ℕ) → k < 1 → i < hops_in (s ∷ []) k → segment_of (sizes (s ∷ [])) (first_hop (sizes (s ∷ [])) k + i) ≡ k
segment_one s zero i lt inside = in_first (sizes (s ∷ [])) (0 + i) (omega arith)
segment_one s (suc k) i lt inside = absurd (omega arith)

pub sizes_are : (ss : List Segment) → 1 ≤ length ss → length ss ≤ 3 → AllByRecursion IsSegment ss → Sized (sizes ss) ss
sizes_are [] some few all = absurd (omega arith)
sizes_are (s ∷ []) some few all =
    let a-some : 1 ≤ length s.hops = all.0.some in
    record {
      count = refl;
      total = omega arith;
      lawful = λ most. are_one (length s.hops) a-some (omega arith);
      before = before_one s;
      within = λ k lt. within_each (s ∷ []) k (omega arith);
      segment = segment_one s;
    }
sizes_are (s ∷ t ∷ []) some few all =
    let a-some : 1 ≤ length s.hops = all.0.some in
    let b-some : 1 ≤ length t.hops = all.1.0.some in
    record {
      count = count_more (length t.hops) b-some 1 2;
      total = omega arith;
      lawful = λ most. are_two (length s.hops) (length t.hops) a-some b-some (omega arith);
      before = before_two s t;
      within = λ k lt. within_each (s ∷ t ∷ []) k (omega arith);
      segment = segment_two s t;
    }
sizes_are (s ∷ t ∷ u ∷ []) some few all =
    let a-some : 1 ≤ length s.hops = all.0.some in
    let b-some : 1 ≤ length t.hops = all.1.0.some in
    let c-some : 1 ≤ length u.hops = all.1.1.0.some in
    record {
      count = count_more (length t.hops) b-some 1 (cond (eqb (length u.hops) 0) 2 3) ∙ count_more (length u.hops) c-some 2 3;
      total = omega arith;
      lawful = λ most. are_three (length s.hops) (length t.hops) (length u.hops) a-some b-some (omega arith);
      before = before_each s t u [];
      within = λ k lt. within_each (s ∷ t ∷ u ∷ []) k (omega arith);
      segment = segment_each s t u [];
    }
sizes_are (s ∷ t ∷ u ∷ v ∷ ss) some few all = absurd (omega arith)

-- ---- lawful lengths

rest_none : (b c : ℕ) → (leb 1 b || eqb c 0) ≡ true → b ≡ 0 → c ≡ 0
rest_none b c some none =
    elim (or_cases (leb 1 b) (eqb c 0) some) [
      | inl more ↦ let one : 1 ≤ b = leb-true 1 b more in absurd (omega arith)
      | inr nothing ↦ eqb-true c 0 nothing
    ]

-- What lawful lengths are, by how many segments they have.
pub data LengthCase (a b c count : ℕ) : Type 0 where
  One : 1 ≤ a → b ≡ 0 → c ≡ 0 → count ≡ 1 → LengthCase a b c count
  Two : 1 ≤ a → 1 ≤ b → c ≡ 0 → count ≡ 2 → LengthCase a b c count
  Three : 1 ≤ a → 1 ≤ b → 1 ≤ c → count ≡ 3 → LengthCase a b c count

pub length_case : (lengths : List ℕ) → are_lengths lengths ≡ true → LengthCase (slice_index lengths 0) (slice_index lengths 1) (slice_index lengths 2) (segment_count lengths)
length_case lengths lawful =
    let a = slice_index lengths 0 in
    let b = slice_index lengths 1 in
    let c = slice_index lengths 2 in
    let shape = and_parts (leb 1 a && (leb 1 b || eqb c 0)) (leb (hop_count lengths) 64) lawful in
    let parts = and_parts (leb 1 a) (leb 1 b || eqb c 0) shape.0 in
    let a-some : 1 ≤ a = leb-true 1 a parts.0 in
    elim (cases_eq b 0) [
      | inl none ↦ One a-some none (rest_none b c parts.1 none) (cond-true (eqb b 0) 1 (cond (eqb c 0) 2 3) (eq-eqb b 0 none))
      | inr is ↦
          let b-some : 1 ≤ b = omega arith in
          let more : segment_count lengths ≡ cond (eqb c 0) 2 3 = count_more b b-some 1 (cond (eqb c 0) 2 3) in
          elim (cases_eq c 0) [
            | inl none ↦ Two a-some b-some none (more ∙ cond-true (eqb c 0) 2 3 (eq-eqb c 0 none))
            | inr other ↦ let c-some : 1 ≤ c = omega arith in Three a-some b-some c-some (more ∙ count_more c c-some 2 3)
          ]
    ]

pub few_hops : (lengths : List ℕ) → are_lengths lengths ≡ true → hop_count lengths ≤ 64
few_hops lengths lawful =
    let some = leb 1 (slice_index lengths 0) && (leb 1 (slice_index lengths 1) || eqb (slice_index lengths 2) 0) in
    leb-true (hop_count lengths) 64 (and_parts some (leb (hop_count lengths) 64) lawful).1

pub count_few : (lengths : List ℕ) → segment_count lengths ≤ 3
count_few lengths = grind (arith, nat_tests)

-- each segment has a hop
pub some_hop : (lengths : List ℕ) (k : ℕ) → are_lengths lengths ≡ true → k < segment_count lengths → 1 ≤ slice_index lengths k
some_hop lengths zero lawful there =
    elim (length_case lengths lawful) [ One some none nothing count ↦ some | Two some more nothing count ↦ some | Three some more most count ↦ some ]
some_hop lengths (suc zero) lawful there =
    elim (length_case lengths lawful) [ One some none nothing count ↦ absurd (omega arith) | Two some more nothing count ↦ more | Three some more most count ↦ more ]
some_hop lengths (suc (suc zero)) lawful there =
    elim (length_case lengths lawful) [ One some none nothing count ↦ absurd (omega arith) | Two some more nothing count ↦ absurd (omega arith) | Three some more most count ↦ most ]
some_hop lengths (suc (suc (suc k))) lawful there = absurd (omega (arith, count_few lengths))

-- The hop is one of segment k.
pub record IsHopOf (lengths : List ℕ) (hop k : ℕ) : Type 0 where
  pub there : k < segment_count lengths
  pub after : first_hop lengths k ≤ hop
  pub inside : hop < first_hop lengths k + slice_index lengths k

-- every hop is one of its segment
pub hop_is_of : (lengths : List ℕ) (hop : ℕ) → are_lengths lengths ≡ true → hop < hop_count lengths → IsHopOf lengths hop (segment_of lengths hop)
hop_is_of lengths hop lawful lt =
    let a = slice_index lengths 0 in
    let b = slice_index lengths 1 in
    let by : (k : ℕ) → segment_of lengths hop ≡ k → IsHopOf lengths hop k → IsHopOf lengths hop (segment_of lengths hop) =
    λ k is here. subst (λ (n : ℕ). IsHopOf lengths hop n) (sym is) here in
    elim (length_case lengths lawful) [
      | One some none nothing count ↦ by 0 (in_first lengths hop (omega arith)) (record { there = omega arith; after = omega arith; inside = omega arith })
      | Two some more nothing count ↦ elim (cases_lt hop a) [
        | inl first ↦ by 0 (in_first lengths hop first) (record { there = omega arith; after = omega arith; inside = omega arith })
        | inr second ↦ by 1 (in_second lengths hop second (omega arith)) (record { there = omega arith; after = omega arith; inside = omega arith })
      ]
      | Three some more most count ↦ elim (cases_lt hop a) [
        | inl first ↦ by 0 (in_first lengths hop first) (record { there = omega arith; after = omega arith; inside = omega arith })
        | inr beyond ↦ elim (cases_lt hop (a + b)) [
          | inl second ↦ by 1 (in_second lengths hop beyond second) (record { there = omega arith; after = omega arith; inside = omega arith })
          | inr third ↦ by 2 (in_third lengths hop third) (record { there = omega arith; after = omega arith; inside = omega arith })
        ]
      ]
    ]

-- Where segment k ends: after the last hop of the path, or before it where another segment follows.
pub record EndOf (lengths : List ℕ) (k : ℕ) : Type 0 where
  pub last : k + 1 ≡ segment_count lengths → first_hop lengths k + slice_index lengths k ≡ hop_count lengths
  pub others : k + 1 < segment_count lengths → first_hop lengths k + slice_index lengths k < hop_count lengths

pub end_of : (lengths : List ℕ) (k : ℕ) → are_lengths lengths ≡ true → k < segment_count lengths → EndOf lengths k
end_of lengths zero lawful there =
    elim (length_case lengths lawful) [
      | One some none nothing count ↦ record { last = λ e. omega (arith, e); others = λ lt. absurd (omega (arith, lt)) }
      | Two some more nothing count ↦ record { last = λ e. absurd (omega (arith, e)); others = λ lt. omega (arith, lt) }
      | Three some more most count ↦ record { last = λ e. absurd (omega (arith, e)); others = λ lt. omega (arith, lt) }
    ]
end_of lengths (suc zero) lawful there =
    elim (length_case lengths lawful) [
      | One some none nothing count ↦ absurd (omega arith)
      | Two some more nothing count ↦ record { last = λ e. omega (arith, e); others = λ lt. absurd (omega (arith, lt)) }
      | Three some more most count ↦ record { last = λ e. absurd (omega (arith, e)); others = λ lt. omega (arith, lt) }
    ]
end_of lengths (suc (suc zero)) lawful there =
    elim (length_case lengths lawful) [
      | One some none nothing count ↦ absurd (omega arith)
      | Two some more nothing count ↦ absurd (omega arith)
      | Three some more most count ↦ record { last = λ e. omega (arith, e); others = λ lt. absurd (omega (arith, lt)) }
    ]
end_of lengths (suc (suc (suc k))) lawful there = absurd (omega (arith, count_few lengths))

-- the last hop of a segment is there
pub end_inside : (lengths : List ℕ) (k : ℕ) → are_lengths lengths ≡ true → k < segment_count lengths → first_hop lengths k + slice_index lengths k ≤ hop_count lengths
end_inside lengths k lawful there =
    let ends : EndOf lengths k = end_of lengths k lawful there in
    elim (cases_lt (k + 1) (segment_count lengths)) [
      | inl more ↦ let before = ends.others more in omega (arith, before)
      | inr over ↦ let last = ends.last (omega (arith, there, over)) in omega (arith, last)
    ]
