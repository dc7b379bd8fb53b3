-- Bytes that pass the path's tests are those of the path that is read from them.
use Rattle.std.proofs.Common.{◌≡◌, ◌≤◌, ◌<◌, ◌-◌, ℕ, ◌+◌, ◌*◌, ◌/◌, ◌%◌, true, None, List, [], ◌∷◌, ◌++◌, length, map, slice_index, refl, sym, ap, subst, ◌∙◌, arith, length-append}
use Rattle.std.specs.List.{AllByRecursion, flat_map, range_with_len}
use Rattle.std.proofs.lemmas.Bool.{eqb-true, leb-true, ltb-true}
use Rattle.std.proofs.lemmas.List.{take_all}
use Rattle.std.proofs.lemmas.List.FromFn.{length-map-range_with_len}
use Rattle.field_rows.specs.Row.{Field, field, rows}
use Rattle.field_rows.specs.Place.{IsBytes, StandsAt}
use Rattle.field_rows.proofs.Rows.{StandsAt-next}
use Rattle.scion_packet.specs.Lengths.{are_lengths, first_hop, hop_count, hops_place, path_len, segment_count, segment_of}
use Rattle.scion_packet.specs.Path.{IsSegment, PathFields, Segment, SpellsPath, count_hops, current_hop, current_info, cursor_row, hop_at, hop_number, hop_text, hops_in, hops_text, infos_text, lengths_of, meta_field, meta_table, no_peering, path_fault, path_of, path_tests, segments_at}
use Rattle.scion_packet.proofs.Fields.{info_spelled}
use Rattle.scion_packet.proofs.Meta.{meta_rows, meta_spelled}
use Rattle.scion_packet.proofs.Runs.{clear_at, hops_len, infos_len, infos_spelled, run, run_len, run_spelled, seg}
use Rattle.scion_packet.proofs.Tests.{all_pass}
use Rattle.scion_packet.proofs.Sizes.{IsHopOf, One, Two, Three, Sized, few_hops, hop_is_of, length_case, sizes, sizes_are}

-- ---- the tests, one by one

-- What the path's tests show.
pub record Passes (path : List ℕ) : Type 0 where
  pub long : 4 ≤ length path
  pub lengths : are_lengths (lengths_of path) ≡ true
  pub whole : length path ≡ path_len (lengths_of path)
  pub hop : current_hop path < hop_count (lengths_of path)
  pub info : current_info path ≡ segment_of (lengths_of path) (current_hop path)
  pub clear : no_peering (segment_count (lengths_of path)) path ≡ true

pub passes_tests : (path : List ℕ) → path_fault path ≡ None → Passes path
passes_tests path none =
    let all = all_pass (path_tests path) none in
    record {
      long = leb-true _ _ all.0;
      lengths = all.1.0;
      whole = eqb-true _ _ all.1.1.0;
      hop = ltb-true _ _ all.1.1.1.0;
      info = eqb-true _ _ all.1.1.1.1.0;
      clear = all.1.1.1.1.1.0;
    }

-- ---- the segments

run_length : (path : List ℕ) (base a n : ℕ) → length (run path base a n) ≡ n
run_length path base a n = length-map-range_with_len (λ hop. hop_at path (base + 12 * hop)) a n

seg_lawful : (path : List ℕ) (base : ℕ) (lengths : List ℕ) (k : ℕ) → IsBytes path → 4 + 8 * (k + 1) ≤ length path
    → base + 12 * (first_hop lengths k + slice_index lengths k) ≤ length path → slice_index path (4 + 8 * k) / 2 % 2 ≡ 0 → 1 ≤ slice_index lengths k
    → IsSegment (seg path base lengths k)
seg_lawful path base lengths k are info-room hops-room clear some =
    record {
      info = (info_spelled path (4 + 8 * k) are (omega arith) clear).fits;
      hops = (run_spelled path base (first_hop lengths k) (slice_index lengths k) are hops-room).lawful;
      some = omega (arith, run_length path base (first_hop lengths k) (slice_index lengths k));
    }

-- the hop fields of a segment, and what stands after them
join : (path : List ℕ) (base a b n : ℕ) (rest : List ℕ) → IsBytes path → base + 12 * (a + n) ≤ length path → b ≡ a + n
    → StandsAt path (base + 12 * b) rest → StandsAt path (base + 12 * a) (flat_map hop_text (run path base a n) ++ rest)
join path base a b n rest are inside place after =
    let first = run_spelled path base a n are inside in
    StandsAt-next path (base + 12 * a) (base + 12 * b) (flat_map hop_text (run path base a n)) rest first.text after
    (omega (arith, run_len (run path base a n) first.lawful, run_length path base a n))

pub same_three : (a b c a' b' c' : ℕ) → a ≡ a' → b ≡ b' → c ≡ c' → a ∷ b ∷ c ∷ [] ≡ a' ∷ b' ∷ c' ∷ []
same_three a b c a' b' c' e0 e1 e2 = cc

-- Segments of these lengths are spelled, their hop fields from base on.
pub record SegmentsSpelled (path : List ℕ) (base : ℕ) (lengths : List ℕ) (ss : List Segment) : Type 0 where
  pub lawful : AllByRecursion IsSegment ss
  pub infos : StandsAt path 4 (infos_text ss)
  pub hops : StandsAt path base (hops_text ss)
  pub are_sizes : sizes ss ≡ lengths
  pub some : 1 ≤ length ss
  pub few : length ss ≤ 3

-- the first n segments, where the hop fields begin after n info fields
abbrev pub segs : List ℕ → List ℕ → ℕ → List Segment
segs path lengths n = map (seg path (4 + 8 * n) lengths) (range_with_len 0 n)

pub from_zero : (path : List ℕ) (base : ℕ) (text : List ℕ) → StandsAt path (base + 12 * 0) text → StandsAt path base text
from_zero path base text stands = let same : base + 12 * 0 ≡ base = omega arith in subst (λ (n : ℕ). StandsAt path n text) same stands

one_spelled : (path : List ℕ) (a b c : ℕ) → IsBytes path → 1 ≤ a → b ≡ 0 → c ≡ 0 → 12 + 12 * a ≤ length path → no_peering 1 path ≡ true
    → SegmentsSpelled path 12 (a ∷ b ∷ c ∷ []) (segs path (a ∷ b ∷ c ∷ []) 1)
one_spelled path a b c are some none nothing room clear =
    let lengths = a ∷ b ∷ c ∷ [] in
    record {
      lawful = (seg_lawful path 12 lengths 0 are (omega arith) (omega arith) (clear_at 1 0 path clear (omega arith)) some, tt);
      infos = infos_spelled path 12 lengths 0 1 are (omega arith) clear;
      hops = from_zero path 12 _ (join path 12 0 a a [] are (omega arith) (omega arith) (record { read = refl }));
      are_sizes = same_three _ _ _ _ _ _ (run_length path 12 0 a) (sym none) (sym nothing);
      some = omega arith;
      few = omega arith;
    }

two_spelled : (path : List ℕ) (a b c : ℕ) → IsBytes path → 1 ≤ a → 1 ≤ b → c ≡ 0 → 20 + 12 * (a + b) ≤ length path → no_peering 2 path ≡ true
    → SegmentsSpelled path 20 (a ∷ b ∷ c ∷ []) (segs path (a ∷ b ∷ c ∷ []) 2)
two_spelled path a b c are some more nothing room clear =
    let lengths = a ∷ b ∷ c ∷ [] in
    let end : StandsAt path (20 + 12 * (a + b)) [] = record { read = refl } in
    let second = join path 20 a (a + b) b [] are (omega arith) refl end in
    record {
      lawful = (
        seg_lawful path 20 lengths 0 are (omega arith) (omega arith) (clear_at 2 0 path clear (omega arith)) some,
        (seg_lawful path 20 lengths 1 are (omega arith) (omega arith) (clear_at 2 1 path clear (omega arith)) more, tt),
      );
      infos = infos_spelled path 20 lengths 0 2 are (omega arith) clear;
      hops = from_zero path 20 _ (join path 20 0 a a _ are (omega arith) (omega arith) second);
      are_sizes = same_three _ _ _ _ _ _ (run_length path 20 0 a) (run_length path 20 a b) (sym nothing);
      some = omega arith;
      few = omega arith;
    }

three_spelled : (path : List ℕ) (a b c : ℕ) → IsBytes path → 1 ≤ a → 1 ≤ b → 1 ≤ c → 28 + 12 * (a + b + c) ≤ length path → no_peering 3 path ≡ true
    → SegmentsSpelled path 28 (a ∷ b ∷ c ∷ []) (segs path (a ∷ b ∷ c ∷ []) 3)
three_spelled path a b c are some more most room clear =
    let lengths = a ∷ b ∷ c ∷ [] in
    let end : StandsAt path (28 + 12 * (a + b + c)) [] = record { read = refl } in
    let third = join path 28 (a + b) (a + b + c) c [] are (omega arith) refl end in
    let second = join path 28 a (a + b) b _ are (omega arith) refl third in
    record {
      lawful = (
        seg_lawful path 28 lengths 0 are (omega arith) (omega arith) (clear_at 3 0 path clear (omega arith)) some,
        (
          seg_lawful path 28 lengths 1 are (omega arith) (omega arith) (clear_at 3 1 path clear (omega arith)) more,
          (seg_lawful path 28 lengths 2 are (omega arith) (omega arith) (clear_at 3 2 path clear (omega arith)) most, tt),
        ),
      );
      infos = infos_spelled path 28 lengths 0 3 are (omega arith) clear;
      hops = from_zero path 28 _ (join path 28 0 a a _ are (omega arith) (omega arith) second);
      are_sizes = same_three _ _ _ _ _ _ (run_length path 28 0 a) (run_length path 28 a b) (run_length path 28 (a + b) c);
      some = omega arith;
      few = omega arith;
    }

segments_spelled : (path : List ℕ) (a b c : ℕ) → IsBytes path → are_lengths (a ∷ b ∷ c ∷ []) ≡ true → length path ≡ path_len (a ∷ b ∷ c ∷ [])
    → no_peering (segment_count (a ∷ b ∷ c ∷ [])) path ≡ true
    → SegmentsSpelled path (hops_place (a ∷ b ∷ c ∷ [])) (a ∷ b ∷ c ∷ []) (segments_at (a ∷ b ∷ c ∷ []) path)
segments_spelled path a b c are lawful whole clear =
    let lengths = a ∷ b ∷ c ∷ [] in
    let by : (n : ℕ) → segment_count lengths ≡ n → SegmentsSpelled path (4 + 8 * n) lengths (segs path lengths n) → SegmentsSpelled path (hops_place lengths) lengths (segments_at lengths path) =
    λ n is here. subst (λ (m : ℕ). SegmentsSpelled path (4 + 8 * m) lengths (segs path lengths m)) (sym is) here in
    let clear-at : (n : ℕ) → segment_count lengths ≡ n → no_peering n path ≡ true = λ n is. ap (λ (m : ℕ). no_peering m path) (sym is) ∙ clear in
    elim (length_case lengths lawful) [
      | One some none nothing count ↦ by 1 count (one_spelled path a b c are some none nothing (omega arith) (clear-at 1 count))
      | Two some more nothing count ↦ by 2 count (two_spelled path a b c are some more nothing (omega arith) (clear-at 2 count))
      | Three some more most count ↦ by 3 count (three_spelled path a b c are some more most (omega arith) (clear-at 3 count))
    ]

-- ---- the whole path

-- texts that stand one after the other and fill the bytes are the bytes
whole_text : (path meta infos hops : List ℕ) (base : ℕ) → StandsAt path 0 meta → StandsAt path 4 infos → StandsAt path base hops → length meta ≡ 4
    → base ≡ 4 + length infos → length path ≡ base + length hops → path ≡ meta ++ (infos ++ hops)
whole_text path meta infos hops base m i h meta-len base-is whole =
    let tail : StandsAt path 4 (infos ++ hops) = StandsAt-next path 4 base infos hops i h base-is in
    let all : StandsAt path 0 (meta ++ (infos ++ hops)) = StandsAt-next path 0 4 meta (infos ++ hops) m tail (omega (arith, meta-len)) in
    let len : length (meta ++ (infos ++ hops)) ≡ length path = omega (arith, length-append meta (infos ++ hops), length-append infos hops, meta-len, base-is, whole) in
    sym (take_all (length (meta ++ (infos ++ hops))) path (omega (arith, len))) ∙ all.read

-- what has been read is lawful and is all that stands there
pub read_spelled : (path : List ℕ) (p : PathFields) (a b c base : ℕ) → p.place.segment ≡ current_info path → hop_number p.segments p.place ≡ current_hop path
    → p.reserved ≡ meta_field path 18 6 → a ≡ meta_field path 12 6 → b ≡ meta_field path 6 6 → c ≡ meta_field path 0 6
    → StandsAt path 0 (rows (cursor_row (meta_field path 30 2) (meta_field path 24 6) ∷ (field 6 (meta_field path 18 6) ∷ field 6 (meta_field path 12 6) ∷ field 6 (meta_field path 6 6) ∷ field 6 (meta_field path 0 6) ∷ []) ∷ []))
    → SegmentsSpelled path base (a ∷ b ∷ c ∷ []) p.segments → base ≡ 4 + 8 * length p.segments → length path ≡ base + 12 * count_hops p.segments
    → count_hops p.segments ≤ 64 → p.place.position < hops_in p.segments p.place.segment → SpellsPath path p
read_spelled path p a b c base info-is hop-is reserved-is a-is b-is c-is meta spelled base-is whole few inside =
    let first : hops_in p.segments 0 ≡ meta_field path 12 6 = ap (λ (l : List ℕ). slice_index l 0) spelled.are_sizes ∙ a-is in
    let second : hops_in p.segments 1 ≡ meta_field path 6 6 = ap (λ (l : List ℕ). slice_index l 1) spelled.are_sizes ∙ b-is in
    let third : hops_in p.segments 2 ≡ meta_field path 0 6 = ap (λ (l : List ℕ). slice_index l 2) spelled.are_sizes ∙ c-is in
    let table = meta_rows p _ _ _ _ _ _ info-is hop-is reserved-is first second third in
    let stands : StandsAt path 0 (rows (meta_table p)) = subst (λ (t : List (List Field)). StandsAt path 0 (rows t)) (sym table) meta in
    record {
      lawful = record {
        meta = ((omega (arith, info-is), (omega (arith, hop-is), tt)), ((omega (arith, reserved-is), (omega (arith, first), (omega (arith, second), (omega (arith, third), tt)))), tt));
        segments = spelled.lawful;
        some = spelled.some;
        few = spelled.few;
        hops = few;
        inside = inside;
      };
      text = whole_text path (rows (meta_table p)) (infos_text p.segments) (hops_text p.segments) base stands spelled.infos spelled.hops refl
          (omega (arith, base-is, infos_len p.segments)) (omega (arith, whole, hops_len p.segments spelled.lawful));
    }

-- the lengths are those of the segments
pub sized_of : (path : List ℕ) → IsBytes path → path_fault path ≡ None → Sized (lengths_of path) (path_of path).segments
sized_of path are none =
    let passes = passes_tests path none in
    let ss = segments_at (lengths_of path) path in
    let spelled = segments_spelled path (meta_field path 12 6) (meta_field path 6 6) (meta_field path 0 6) are passes.lengths passes.whole passes.clear in
    subst (λ (ls : List ℕ). Sized ls ss) spelled.are_sizes (sizes_are ss spelled.some spelled.few spelled.lawful)

-- the number of the current hop, from its place
pub current_number : (path : List ℕ) → IsBytes path → path_fault path ≡ None → hop_number (path_of path).segments (path_of path).place ≡ current_hop path
current_number path are none =
    let passes = passes_tests path none in
    let a = meta_field path 12 6 in
    let b = meta_field path 6 6 in
    let c = meta_field path 0 6 in
    let lengths = lengths_of path in
    let ss = segments_at lengths path in
    let spelled = segments_spelled path a b c are passes.lengths passes.whole passes.clear in
    let sized : Sized lengths ss = subst (λ (ls : List ℕ). Sized ls ss) spelled.are_sizes (sizes_are ss spelled.some spelled.few spelled.lawful) in
    let k = current_info path in
    let here : IsHopOf lengths (current_hop path) k = subst (λ (n : ℕ). IsHopOf lengths (current_hop path) n) (sym passes.info) (hop_is_of lengths (current_hop path) passes.lengths passes.hop) in
    let there : k < length ss = omega (arith, sized.count, here.there) in
    omega (arith, sized.before k there, here.after)

pub path_spelled : (path : List ℕ) → IsBytes path → path_fault path ≡ None → SpellsPath path (path_of path)
path_spelled path are none =
    let passes = passes_tests path none in
    let a = meta_field path 12 6 in
    let b = meta_field path 6 6 in
    let c = meta_field path 0 6 in
    let lengths = lengths_of path in
    let ss = segments_at lengths path in
    let spelled : SegmentsSpelled path (hops_place lengths) lengths ss = segments_spelled path a b c are passes.lengths passes.whole passes.clear in
    let sized : Sized lengths ss = subst (λ (ls : List ℕ). Sized ls ss) spelled.are_sizes (sizes_are ss spelled.some spelled.few spelled.lawful) in
    let k = current_info path in
    let hop = current_hop path in
    let here : IsHopOf lengths hop k = subst (λ (n : ℕ). IsHopOf lengths hop n) (sym passes.info) (hop_is_of lengths hop passes.lengths passes.hop) in
    let there : k < length ss = omega (arith, sized.count, here.there) in
    let number : hop_number ss (path_of path).place ≡ hop = current_number path are none in
    let few : count_hops ss ≤ 64 = omega (arith, sized.total, few_hops lengths passes.lengths) in
    let inside : hop - first_hop lengths k < hops_in ss k = omega (arith, sized.within k there, here.after, here.inside) in
    read_spelled path (path_of path) a b c (hops_place lengths) refl number refl refl refl refl (meta_spelled path are passes.long) spelled
    (omega (arith, sized.count)) (omega (arith, passes.whole, sized.total)) few inside
