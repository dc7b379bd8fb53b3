-- The next hop of a path is at the next place of its segments.
use Rattle.std.proofs.Common.{◌≡◌, ◌≤◌, ◌<◌, ℕ, ◌+◌, ◌-◌, true, nat_eq, nat_lt, ◌≢◌, List, length, slice_index, Some, None, inl, inr, ap, sym, ◌∙◌, arith}
use Rattle.std.proofs.lemmas.Bool.{cases_lt, lt-ltb, le-ltb, cond-true, cond-false, cases_eq, eq-eqb, ne_eqb}
use Rattle.scion_packet.specs.Lengths.{are_lengths, first_hop, hop_count, segment_count, segment_of}
use Rattle.scion_packet.specs.Path.{Place, Segment, hops_in, place_at}
use Rattle.scion_packet.specs.Places.{is_followed, is_last_of_segment, next}
use Rattle.scion_packet.proofs.Sizes.{One, Two, Three, in_first, in_second, in_third, length_case}
use Rattle.path_fields.specs.Path.{place, segments}
use Rattle.path_fields.specs.declared.path.Path.{Path}
use Rattle.path_fields.proofs.SegmentLemmas.{HasSizes, in_current_segment, path_sizes}

inside : (ss : List Segment) (k position : ℕ) → position + 1 < hops_in ss k → next ss (place_at k position) ≡ Some (place_at k (position + 1))
inside ss k position lt = cond-true _ _ _ (lt-ltb _ _ lt)

over : (ss : List Segment) (k position : ℕ) → hops_in ss k ≤ position + 1 → k + 1 < length ss → next ss (place_at k position) ≡ Some (place_at (k + 1) 0)
over ss k position ge more = cond-false _ _ _ (le-ltb _ _ ge) ∙ cond-true _ _ _ (lt-ltb _ _ more)

at_end : (ss : List Segment) (k position : ℕ) → hops_in ss k ≤ position + 1 → length ss ≤ k + 1 → next ss (place_at k position) ≡ None
at_end ss k position ge last = cond-false _ _ _ (le-ltb _ _ ge) ∙ cond-false _ _ _ (le-ltb _ _ last)

abbrev at_hop : List ℕ → ℕ → Place
at_hop lengths h = place_at (segment_of lengths h) (h - first_hop lengths (segment_of lengths h))

at_hop_is : (lengths : List ℕ) (h k position : ℕ) → segment_of lengths h ≡ k → h - first_hop lengths k ≡ position → at_hop lengths h ≡ place_at k position
at_hop_is lengths h k position segment-is position-is =
    ap (λ (n : ℕ). place_at n (h - first_hop lengths n)) segment-is ∙ ap (λ (n : ℕ). place_at k n) position-is

-- one step, from the places of two hops
step : (ss : List Segment) (lengths : List ℕ) (h k position k' position' : ℕ) → segment_of lengths h ≡ k → h - first_hop lengths k ≡ position
    → segment_of lengths (h + 1) ≡ k' → (h + 1) - first_hop lengths k' ≡ position'
    → next ss (place_at k position) ≡ Some (place_at k' position') → next ss (at_hop lengths h) ≡ Some (at_hop lengths (h + 1))
step ss lengths h k position k' position' e0 e1 e2 e3 moves =
    ap (λ (at : Place). next ss at) (at_hop_is lengths h k position e0 e1) ∙ moves ∙ ap (λ (at : Place). Some at) (sym (at_hop_is lengths (h + 1) k' position' e2 e3))

-- how many segments there are where a length is not 0
two_segments : (lengths : List ℕ) → are_lengths lengths ≡ true → 0 < slice_index lengths 1 + slice_index lengths 2 → (1 < segment_count lengths) × (0 < slice_index lengths 1)
two_segments lengths lawful some =
    elim (length_case lengths lawful) [
      | One first none nothing count ↦ absurd (omega arith)
      | Two first more nothing count ↦ (omega arith, more)
      | Three first more most count ↦ (omega arith, more)
    ]

three_segments : (lengths : List ℕ) → are_lengths lengths ≡ true → 0 < slice_index lengths 2 → 2 < segment_count lengths
three_segments lengths lawful some =
    elim (length_case lengths lawful) [
      | One first none nothing count ↦ absurd (omega arith)
      | Two first more nothing count ↦ absurd (omega arith)
      | Three first more most count ↦ omega arith
    ]

pub next_hop : (ss : List Segment) (lengths : List ℕ) (h : ℕ) → HasSizes ss lengths → are_lengths lengths ≡ true → h + 1 < hop_count lengths
    → next ss (at_hop lengths h) ≡ Some (at_hop lengths (h + 1))
next_hop ss lengths h sizes lawful more =
    let a = slice_index lengths 0 in
    let b = slice_index lengths 1 in
    elim (cases_lt (h + 1) a) [
      | inl lt ↦
          step ss lengths h 0 h 0 (h + 1) (in_first lengths h (omega arith)) (omega arith) (in_first lengths (h + 1) lt) (omega arith) (inside ss 0 h (omega (arith, sizes.first)))
      | inr ge ↦ elim (cases_lt (h + 1) (a + b)) [
        | inl lt ↦ elim (cases_lt h a) [
          | inl first ↦
              let two = two_segments lengths lawful (omega arith) in
              step ss lengths h 0 h 1 0 (in_first lengths h first) (omega arith) (in_second lengths (h + 1) ge lt) (omega arith) (over ss 0 h (omega (arith, sizes.first)) (omega (arith, two.0, sizes.count)))
          | inr second ↦
              step ss lengths h 1 (h - a) 1 (h - a + 1) (in_second lengths h second (omega arith)) (omega arith) (in_second lengths (h + 1) ge lt) (omega arith) (inside ss 1 (h - a) (omega (arith, sizes.second)))
        ]
        | inr beyond ↦
            let two = two_segments lengths lawful (omega arith) in
            let three = three_segments lengths lawful (omega arith) in
            elim (cases_lt h (a + b)) [
              | inl second ↦ elim (cases_lt h a) [
                | inl first ↦ absurd (omega (arith, two.1))
                | inr there ↦
                    step ss lengths h 1 (h - a) 2 0 (in_second lengths h there second) (omega arith) (in_third lengths (h + 1) beyond) (omega arith) (over ss 1 (h - a) (omega (arith, sizes.second)) (omega (arith, three, sizes.count)))
              ]
              | inr third ↦
                  step ss lengths h 2 (h - (a + b)) 2 (h - (a + b) + 1) (in_third lengths h third) (omega arith) (in_third lengths (h + 1) beyond) (omega arith) (inside ss 2 (h - (a + b)) (omega (arith, sizes.third)))
            ]
      ]
    ]

pub last_hop : (ss : List Segment) (lengths : List ℕ) (h : ℕ) → HasSizes ss lengths → are_lengths lengths ≡ true → h < hop_count lengths → hop_count lengths ≤ h + 1
    → next ss (at_hop lengths h) ≡ None
last_hop ss lengths h sizes lawful there last =
    let a = slice_index lengths 0 in
    let b = slice_index lengths 1 in
    let at-is = λ (k position : ℕ) (e : segment_of lengths h ≡ k) (f : h - first_hop lengths k ≡ position). ap (λ (at : Place). next ss at) (at_hop_is lengths h k position e f) in
    elim (length_case lengths lawful) [
      | One some none nothing count ↦ at-is 0 h (in_first lengths h (omega arith)) (omega arith) ∙ at_end ss 0 h (omega (arith, sizes.first)) (omega (arith, sizes.count))
      | Two some more nothing count ↦
          at-is 1 (h - a) (in_second lengths h (omega arith) (omega arith)) (omega arith) ∙ at_end ss 1 (h - a) (omega (arith, sizes.second)) (omega (arith, sizes.count))
      | Three some more most count ↦
          at-is 2 (h - (a + b)) (in_third lengths h (omega arith)) (omega arith) ∙ at_end ss 2 (h - (a + b)) (omega (arith, sizes.third)) (omega (arith, sizes.count))
    ]

-- ---- for a path

here : (p : Path) → place p ≡ at_hop p.lengths p.current_hop
here p = ap (λ (k : ℕ). place_at k (p.current_hop - first_hop p.lengths k)) p.current_info_is_its

pub advanced : (p : Path) (info : ℕ) → p.current_hop + 1 < hop_count p.lengths → info ≡ segment_of p.lengths (p.current_hop + 1)
    → next (segments p) (place p) ≡ Some (place_at info ((p.current_hop + 1) - first_hop p.lengths info))
advanced p info more info-is =
    let there : at_hop p.lengths (p.current_hop + 1) ≡ place_at info ((p.current_hop + 1) - first_hop p.lengths info) = ap (λ (k : ℕ). place_at k ((p.current_hop + 1) - first_hop p.lengths k)) (sym info-is) in
    ap (λ (at : Place). next (segments p) at) (here p) ∙ next_hop (segments p) p.lengths p.current_hop (path_sizes p) p.lengths_are_lawful more ∙ ap (λ (at : Place). Some at) there

pub ended : (p : Path) → hop_count p.lengths ≤ p.current_hop + 1 → next (segments p) (place p) ≡ None
ended p last =
    ap (λ (at : Place). next (segments p) at) (here p) ∙ last_hop (segments p) p.lengths p.current_hop (path_sizes p) p.lengths_are_lawful p.current_hop_is_there last

-- the current hop is the last of its segment where its number is
pub last_is : (p : Path) (end : ℕ) → (p.current_info < 3 → end ≡ first_hop p.lengths p.current_info + slice_index p.lengths p.current_info)
    → nat_eq (p.current_hop + 1) end ≡ is_last_of_segment (segments p) (place p)
last_is p end ends =
    let its = in_current_segment p in
    let end-is = ends its.few in
    let position = p.current_hop - first_hop p.lengths p.current_info in
    let size = hops_in (segments p) p.current_info in
    elim (cases_eq (p.current_hop + 1) end) [
      | inl same ↦ eq-eqb _ _ same ∙ sym (eq-eqb (position + 1) size (omega (arith, its.size, its.from_first, same, end-is)))
      | inr other ↦
          let different : position + 1 ≢ size = omega (arith, its.size, its.from_first, other, end-is) in
          ne_eqb _ _ other ∙ sym (ne_eqb (position + 1) size different)
    ]

pub followed_is : (p : Path) → nat_lt (p.current_info + 1) (segment_count p.lengths) ≡ is_followed (segments p) (place p)
followed_is p = ap (λ (n : ℕ). nat_lt (p.current_info + 1) n) (sym (path_sizes p).count)
