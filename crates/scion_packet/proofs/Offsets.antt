-- The info field and the hop field at a place stand at one offset each.
use Rattle.std.proofs.Common.{◌≡◌, ◌≢◌, ◌==◌, true, false, ltb, ◌<◌, ◌-◌, ℕ, zero, suc, ◌+◌, None, List, [], ◌∷◌, length, refl, sym, ap, subst, ◌∙◌, arith, inl, inr, slice_index_or, slice_index}
use Rattle.std.proofs.lemmas.List.FromFn.{get_or-map-range_with_len, length-map-range_with_len}
use Rattle.std.proofs.lemmas.Bool.{and_right, cases_eq, cases_lt, eq-eqb, le-ltb, lt-ltb, ne_eqb}
use Rattle.field_rows.specs.Place.{IsBytes}
use Rattle.scion_packet.specs.Lengths.{first_hop, hop_count, hop_place, info_place, segment_count}
use Rattle.scion_packet.specs.Path.{Segment, current_hop, current_info, hop_at, hops_in, info_at, lengths_of, path_fault, path_of, place_at, segment_at, segments_at}
use Rattle.scion_packet.specs.Places.{hop_there, info_there, is_last_of_path, no_hop, no_segment, segment_there}
use Rattle.scion_packet.specs.Laws.{FieldsStand}
use Rattle.scion_packet.proofs.PathSpelled.{current_number, passes_tests, sized_of}
use Rattle.scion_packet.proofs.Sizes.{EndOf, IsHopOf, count_few, end_inside, end_of, few_hops, hop_is_of, some_hop}

segment_stands : (path lengths : List ℕ) (k i : ℕ) → k < segment_count lengths → segment_there (segments_at lengths path) (place_at k i) ≡ segment_at lengths path k
segment_stands path lengths k i below = get_or-map-range_with_len (segment_at lengths path) 0 (segment_count lengths) k k no_segment below (omega arith)

pub info_stands : (path lengths : List ℕ) (k i : ℕ) → k < segment_count lengths → info_there (segments_at lengths path) (place_at k i) ≡ info_at path (info_place k)
info_stands path lengths k i below = ap (λ (s : Segment). s.info) (segment_stands path lengths k i below)

pub hop_stands : (path lengths : List ℕ) (k i : ℕ) → k < segment_count lengths → i < slice_index lengths k
    → hop_there (segments_at lengths path) (place_at k i) ≡ hop_at path (hop_place lengths (first_hop lengths k + i))
hop_stands path lengths k i below inside =
    ap (λ (s : Segment). slice_index_or s.hops i no_hop) (segment_stands path lengths k i below)
    ∙ get_or-map-range_with_len (λ hop. hop_at path (hop_place lengths hop)) (first_hop lengths k) (slice_index lengths k) i (first_hop lengths k + i) no_hop inside refl

pub hops_in_is : (ss : List Segment) (k : ℕ) → hops_in ss k ≡ length (slice_index_or ss k no_segment).hops
hops_in_is [] k = refl
hops_in_is (s ∷ ss) zero = refl
hops_in_is (s ∷ ss) (suc k) = hops_in_is ss k

hops_len_at : (path lengths : List ℕ) (k : ℕ) → k < segment_count lengths → hops_in (segments_at lengths path) k ≡ slice_index lengths k
hops_len_at path lengths k there =
    hops_in_is (segments_at lengths path) k
    ∙ ap (λ (s : Segment). length s.hops) (segment_stands path lengths k 0 there)
    ∙ length-map-range_with_len (λ hop. hop_at path (hop_place lengths hop)) (first_hop lengths k) (slice_index lengths k)

-- the current hop is the last of the path where its number is
last_is : (path : List ℕ) → IsBytes path → path_fault path ≡ None → is_last_of_path (path_of path).segments (path_of path).place ≡ (current_hop path + 1 == hop_count (lengths_of path))
last_is path are none =
    let passes = passes_tests path none in
    let lengths = lengths_of path in
    let ss = segments_at lengths path in
    let k = current_info path in
    let hop = current_hop path in
    let here : IsHopOf lengths hop k = subst (λ (n : ℕ). IsHopOf lengths hop n) (sym passes.info) (hop_is_of lengths hop passes.lengths passes.hop) in
    let ends : EndOf lengths k = end_of lengths k passes.lengths here.there in
    let len : hops_in ss k ≡ slice_index lengths k = hops_len_at path lengths k here.there in
    let count : length ss ≡ segment_count lengths = length-map-range_with_len (segment_at lengths path) 0 (segment_count lengths) in
    let i = hop - first_hop lengths k in
    elim (cases_lt (k + 1) (segment_count lengths)) [
      | inl more ↦
          let followed : ltb (k + 1) (length ss) ≡ true = lt-ltb _ _ (omega (arith, count, more)) in
          let not-last : hop + 1 ≢ hop_count lengths = omega (arith, ends.others more, here.inside) in
          rw (followed, ne_eqb (hop + 1) (hop_count lengths) not-last) (and_right _ false refl)
      | inr over ↦
          let alone : ltb (k + 1) (length ss) ≡ false = le-ltb _ _ (omega (arith, count, over)) in
          let end : first_hop lengths k + slice_index lengths k ≡ hop_count lengths = ends.last (omega (arith, here.there, over)) in
          elim (cases_eq (hop + 1) (hop_count lengths)) [
            | inl same ↦ rw (alone, eq-eqb (i + 1) (hops_in ss k) (omega (arith, len, end, here.after)), eq-eqb (hop + 1) (hop_count lengths) same) refl
            | inr other ↦
                let different : i + 1 ≢ hops_in ss k = omega (arith, len, end, here.after) in
                rw (alone, ne_eqb (i + 1) (hops_in ss k) different, ne_eqb (hop + 1) (hop_count lengths) other) refl
          ]
    ]

one_behind : (lengths : List ℕ) (k : ℕ) → k + 1 < segment_count lengths → first_hop lengths (k + 1) ≡ first_hop lengths k + slice_index lengths k
one_behind lengths zero there = omega arith
one_behind lengths (suc zero) there = refl
one_behind lengths (suc (suc k)) there = absurd (omega (arith, count_few lengths))

pub fields_stand : (path : List ℕ) → IsBytes path → path_fault path ≡ None → FieldsStand path
fields_stand path are none =
    let passes = passes_tests path none in
    let lengths = lengths_of path in
    let k = current_info path in
    let hop = current_hop path in
    let here : IsHopOf lengths hop k = subst (λ (n : ℕ). IsHopOf lengths hop n) (sym passes.info) (hop_is_of lengths hop passes.lengths passes.hop) in
    let i = hop - first_hop lengths k in
    let number : first_hop lengths k + i ≡ hop = omega (arith, here.after) in
    let sized = sized_of path are none in
    record {
      count = sym sized.count;
      hops = λ j below. sym (sized.within j (omega (arith, sized.count, below)));
      number = λ j m below. let before = sized.before j (omega (arith, sized.count, below)) in omega (arith, before);
      some = λ j below. some_hop lengths j passes.lengths below;
      follows = λ j below. one_behind lengths j below;
      within = λ j m below inside. let end = end_inside lengths j passes.lengths below in omega (arith, end, inside);
      few_hops = few_hops lengths passes.lengths;
      all_hops = sized.total;
      whole = passes.whole;
      begins = here.after;
      ends = here.inside;
      info = λ j m below. info_stands path lengths j m below;
      hop = λ j m below inside. hop_stands path lengths j m below inside;
      current_info_field = info_stands path lengths k i here.there;
      current_hop_field = hop_stands path lengths k i here.there (omega (arith, here.after, here.inside))
          ∙ ap (λ (n : ℕ). hop_at path (hop_place lengths n)) number;
      there = omega (arith, length-map-range_with_len (segment_at lengths path) 0 (segment_count lengths), here.there);
      few = omega (arith, length-map-range_with_len (segment_at lengths path) 0 (segment_count lengths), count_few lengths);
      info_room = omega (arith, here.there, passes.whole);
      hop_room = omega (arith, passes.hop, passes.whole);
      last = last_is path are none;
      current_hop_number = current_number path are none;
    }
