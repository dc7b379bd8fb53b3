-- The bytes of a path pass the path's tests, and the path is the one that is read from them.
use Rattle.std.proofs.Common.{◌≡◌, ◌≤◌, ◌<◌, ◌-◌, ℕ, zero, suc, ◌+◌, ◌*◌, true, None, List, [], ◌∷◌, ◌++◌, length, take, slice_index, refl, sym, ap, ap₂, subst, ◌∙◌, arith, length-append}
use Rattle.std.specs.List.{AllByRecursion, flat_map}
use Rattle.std.proofs.lemmas.Bool.{eq-eqb, le-leb, lt-ltb}
use Rattle.std.proofs.lemmas.List.{take_all}
use Rattle.field_rows.specs.Row.{rows}
use Rattle.field_rows.specs.Place.{StandsAt}
use Rattle.field_rows.proofs.Rows.{StandsAt-front}
use Rattle.scion_packet.specs.Lengths.{are_lengths, first_hop, hop_count, segment_count, segment_of}
use Rattle.scion_packet.specs.Path.{HopField, InfoField, IsSegment, PathFields, Segment, SpellsPath, count_hops, current_hop, current_info, hop_number, hop_text, hops_in, hops_text, info_at, infos_text, lengths_of, meta_table, no_peering, path_fault, path_of, path_tests, path_text, place_at, segments_at}
use Rattle.scion_packet.proofs.Fields.{stands_after}
use Rattle.scion_packet.proofs.Meta.{MetaRead, meta_back}
use Rattle.scion_packet.proofs.PathSpelled.{same_three, segs}
use Rattle.scion_packet.proofs.Runs.{count_more_hops, hops_len, info_of, infos_after, infos_clear, infos_len, run, run_back, run_len, seg}
use Rattle.scion_packet.proofs.Sizes.{Sized, sizes, sizes_are}
use Rattle.scion_packet.proofs.Tests.{none_fails}

-- ---- sizes

-- the hops up to the end of a segment are among all hops
take_count : (ss : List Segment) (k : ℕ) → count_hops (take k ss) + hops_in ss k ≤ count_hops ss
take_count [] zero = omega arith
take_count [] (suc k) = omega arith
take_count (s ∷ ss) zero = omega (arith, count_more_hops s ss)
take_count (s ∷ ss) (suc k) = omega (arith, take_count ss k, count_more_hops s ss, count_more_hops s (take k ss))

-- a segment that has hops is there
has_segment : (ss : List Segment) (k : ℕ) → 0 < hops_in ss k → k < length ss
has_segment [] k some = absurd (omega arith)
has_segment (s ∷ ss) zero some = omega arith
has_segment (s ∷ ss) (suc k) some = omega (arith, has_segment ss k some)

-- ---- what is read of the bytes of a path

pub whole_stands : (bytes text : List ℕ) → bytes ≡ text → StandsAt bytes 0 text
whole_stands bytes text is =
    let all : take (length text) text ≡ text = take_all (length text) text (omega arith) in
    record { read = ap (λ (t : List ℕ). take (length text) t) is ∙ all }

-- The parts of the bytes of a path.
record Parts (path : List ℕ) (p : PathFields) : Type 0 where
  sized : Sized (sizes p.segments) p.segments
  there : p.place.segment < length p.segments
  infos : StandsAt path 4 (infos_text p.segments)
  hops : StandsAt path (4 + 8 * length p.segments) (hops_text p.segments)
  read : MetaRead path p.place.segment (hop_number p.segments p.place) p.reserved (hops_in p.segments 0) (hops_in p.segments 1) (hops_in p.segments 2)
  lengths : lengths_of path ≡ sizes p.segments
  whole : length path ≡ 4 + 8 * length p.segments + 12 * count_hops p.segments

parts_of : (path : List ℕ) (p : PathFields) → SpellsPath path p → Parts path p
parts_of path p spells =
    let ss = p.segments in
    let lawful = spells.lawful in
    let meta = rows (meta_table p) in
    let infos = infos_text ss in
    let hops = hops_text ss in
    let infos-len = infos_len ss in
    let hops-len = hops_len ss lawful.segments in
    let stands : StandsAt path 0 (meta ++ (infos ++ hops)) = whole_stands path (path_text p) spells.text in
    let from4 : StandsAt path 4 (infos ++ hops) = stands_after path 0 4 meta (infos ++ hops) stands refl in
    let fits = lawful.meta in
    let read : MetaRead path p.place.segment (hop_number ss p.place) p.reserved (hops_in ss 0) (hops_in ss 1) (hops_in ss 2) =
    meta_back path p.place.segment (hop_number ss p.place) p.reserved (hops_in ss 0) (hops_in ss 1) (hops_in ss 2)
    fits.0.0 fits.0.1.0 fits.1.0.0 fits.1.0.1.0 fits.1.0.1.1.0 fits.1.0.1.1.1.0 (StandsAt-front path 0 meta (infos ++ hops) stands) in
    record {
      sized = sizes_are ss lawful.some lawful.few lawful.segments;
      there = has_segment ss p.place.segment (omega (arith, lawful.inside));
      infos = StandsAt-front path 4 infos hops from4;
      hops = stands_after path 4 (4 + 8 * length ss) infos hops from4 (omega (arith, infos-len));
      read = read;
      lengths = same_three _ _ _ _ _ _ read.first_is read.second_is read.third_is;
      whole = omega (arith, ap length spells.text, length-append meta (infos ++ hops), length-append infos hops, infos-len, hops-len);
    }

-- ---- the tests pass

pub path_passes : (path : List ℕ) (p : PathFields) → SpellsPath path p → path_fault path ≡ None
path_passes path p spells =
    let ss = p.segments in
    let k = p.place.segment in
    let i = p.place.position in
    let lawful = spells.lawful in
    let parts = parts_of path p spells in
    let sized = parts.sized in
    let lengths = parts.lengths in
    let count : segment_count (lengths_of path) ≡ length ss = ap segment_count lengths ∙ sized.count in
    let total : hop_count (lengths_of path) ≡ count_hops ss = ap hop_count lengths ∙ sized.total in
    let number : current_hop path ≡ first_hop (sizes ss) k + i = omega (arith, parts.read.hop_is, sized.before k parts.there) in
    let segment : segment_of (lengths_of path) (current_hop path) ≡ k =
    ap₂ segment_of lengths number ∙ sized.segment k i parts.there lawful.inside in
    let inside : current_hop path < hop_count (lengths_of path) = omega (arith, total, number, sized.before k parts.there, take_count ss k, lawful.inside) in
    let none : 0 + length ss ≡ segment_count (lengths_of path) = omega (arith, count) in
    let clear : no_peering (segment_count (lengths_of path)) path ≡ true =
    ap (λ (n : ℕ). no_peering n path) (sym none) ∙ infos_clear path 0 ss lawful.segments parts.infos refl in
    none_fails (path_tests path) (
      le-leb _ _ (omega (arith, parts.whole)),
      (
        ap are_lengths lengths ∙ sized.lawful lawful.hops,
        (eq-eqb _ _ (omega (arith, parts.whole, count, total)), (lt-ltb _ _ inside, (eq-eqb _ _ (parts.read.info_is ∙ sym segment), (clear, tt)))),
      ),
    )

-- ---- the segments are read

seg_back : (path : List ℕ) (base : ℕ) (lengths : List ℕ) (k : ℕ) (s : Segment) → info_at path (4 + 8 * k) ≡ s.info
    → run path base (first_hop lengths k) (slice_index lengths k) ≡ s.hops → seg path base lengths k ≡ s
seg_back path base lengths k s info hops = ap₂ (λ (i : InfoField) (hs : List HopField). record { info = i; hops = hs }) info hops

-- the hop fields of a segment are read where they stand
hops_of : (path : List ℕ) (base a : ℕ) (s : Segment) (rest : List ℕ) → IsSegment s → StandsAt path (base + 12 * a) (flat_map hop_text s.hops ++ rest)
    → run path base a (length s.hops) ≡ s.hops
hops_of path base a s rest lawful stands =
    run_back path base a s.hops (record { text = StandsAt-front path (base + 12 * a) (flat_map hop_text s.hops) rest stands; lawful = lawful.hops })

-- the hop fields after those of a segment
hops_after : (path : List ℕ) (base a : ℕ) (s : Segment) (rest : List ℕ) → IsSegment s → StandsAt path (base + 12 * a) (flat_map hop_text s.hops ++ rest)
    → StandsAt path (base + 12 * (a + length s.hops)) rest
hops_after path base a s rest lawful stands =
    stands_after path (base + 12 * a) (base + 12 * (a + length s.hops)) (flat_map hop_text s.hops) rest stands (omega (arith, run_len s.hops lawful.hops))

to_zero : (path : List ℕ) (base : ℕ) (text : List ℕ) → StandsAt path base text → StandsAt path (base + 12 * 0) text
to_zero path base text stands = let same : base ≡ base + 12 * 0 = omega arith in subst (λ (n : ℕ). StandsAt path n text) same stands

from_first : (path : List ℕ) (base a : ℕ) (text : List ℕ) → StandsAt path (base + 12 * (0 + a)) text → StandsAt path (base + 12 * a) text
from_first path base a text stands = let same : base + 12 * (0 + a) ≡ base + 12 * a = omega arith in subst (λ (n : ℕ). StandsAt path n text) same stands

segments_back : (path : List ℕ) (ss : List Segment) → 1 ≤ length ss → length ss ≤ 3 → AllByRecursion IsSegment ss
    → StandsAt path 4 (infos_text ss) → StandsAt path (4 + 8 * length ss) (hops_text ss) → segs path (sizes ss) (length ss) ≡ ss
segments_back path [] some few all infos hops = absurd (omega arith)
segments_back path (s ∷ []) some few all infos hops =
    let h0 = to_zero path 12 (hops_text (s ∷ [])) hops in
    let s0 : seg path 12 (sizes (s ∷ [])) 0 ≡ s = seg_back path 12 (sizes (s ∷ [])) 0 s (info_of path 0 [] s all infos) (hops_of path 12 0 s [] all.0 h0) in
    ap (λ (x : Segment). x ∷ []) s0
segments_back path (s ∷ t ∷ []) some few all infos hops =
    let lengths = sizes (s ∷ t ∷ []) in
    let h0 = to_zero path 20 (hops_text (s ∷ t ∷ [])) hops in
    let h1 = from_first path 20 (length s.hops) (hops_text (t ∷ [])) (hops_after path 20 0 s (hops_text (t ∷ [])) all.0 h0) in
    let i1 = infos_after path 0 (t ∷ []) s infos in
    let s0 : seg path 20 lengths 0 ≡ s = seg_back path 20 lengths 0 s (info_of path 0 (t ∷ []) s all infos) (hops_of path 20 0 s (hops_text (t ∷ [])) all.0 h0) in
    let s1 : seg path 20 lengths 1 ≡ t = seg_back path 20 lengths 1 t (info_of path 1 [] t all.1 i1) (hops_of path 20 (length s.hops) t [] all.1.0 h1) in
    ap₂ (λ (x y : Segment). x ∷ y ∷ []) s0 s1
segments_back path (s ∷ t ∷ u ∷ []) some few all infos hops =
    let lengths = sizes (s ∷ t ∷ u ∷ []) in
    let h0 = to_zero path 28 (hops_text (s ∷ t ∷ u ∷ [])) hops in
    let h1 = from_first path 28 (length s.hops) (hops_text (t ∷ u ∷ [])) (hops_after path 28 0 s (hops_text (t ∷ u ∷ [])) all.0 h0) in
    let h2 = hops_after path 28 (length s.hops) t (hops_text (u ∷ [])) all.1.0 h1 in
    let i1 = infos_after path 0 (t ∷ u ∷ []) s infos in
    let i2 = infos_after path 1 (u ∷ []) t i1 in
    let s0 : seg path 28 lengths 0 ≡ s = seg_back path 28 lengths 0 s (info_of path 0 (t ∷ u ∷ []) s all infos) (hops_of path 28 0 s (hops_text (t ∷ u ∷ [])) all.0 h0) in
    let s1 : seg path 28 lengths 1 ≡ t = seg_back path 28 lengths 1 t (info_of path 1 (u ∷ []) t all.1 i1) (hops_of path 28 (length s.hops) t (hops_text (u ∷ [])) all.1.0 h1) in
    let s2 : seg path 28 lengths 2 ≡ u = seg_back path 28 lengths 2 u (info_of path 2 [] u all.1.1 i2) (hops_of path 28 (length s.hops + length t.hops) u [] all.1.1.0 h2) in
    ap (λ (x : Segment). x ∷ seg path 28 lengths 1 ∷ seg path 28 lengths 2 ∷ []) s0 ∙ ap₂ (λ (y z : Segment). s ∷ y ∷ z ∷ []) s1 s2
segments_back path (s ∷ t ∷ u ∷ v ∷ ss) some few all infos hops = absurd (omega arith)

-- ---- the path is read

same_path : (p q : PathFields) → p.reserved ≡ q.reserved → p.place.segment ≡ q.place.segment → p.place.position ≡ q.place.position → p.segments ≡ q.segments → p ≡ q
same_path p q e0 e1 e2 e3 =
    ap (λ (x : ℕ). record p { reserved = x }) e0
    ∙ ap (λ (x : ℕ). record p { reserved = q.reserved; place = place_at x p.place.position }) e1
    ∙ ap (λ (x : ℕ). record p { reserved = q.reserved; place = place_at q.place.segment x }) e2
    ∙ ap (λ (x : List Segment). record q { segments = x }) e3

pub path_only : (path : List ℕ) (p : PathFields) → SpellsPath path p → p ≡ path_of path
path_only path p spells =
    let ss = p.segments in
    let k = p.place.segment in
    let lawful = spells.lawful in
    let parts = parts_of path p spells in
    let sized = parts.sized in
    let first : first_hop (lengths_of path) (current_info path) ≡ first_hop (sizes ss) k = ap₂ first_hop parts.lengths parts.read.info_is in
    let position : p.place.position ≡ current_hop path - first_hop (lengths_of path) (current_info path) =
    omega (arith, first, parts.read.hop_is, sized.before k parts.there) in
    let segments : segments_at (lengths_of path) path ≡ ss =
    ap (λ (ls : List ℕ). segments_at ls path) parts.lengths ∙ ap (λ (n : ℕ). segs path (sizes ss) n) sized.count
    ∙ segments_back path ss lawful.some lawful.few lawful.segments parts.infos parts.hops in
    same_path p (path_of path) (sym parts.read.reserved_is) (sym parts.read.info_is) position (sym segments)
