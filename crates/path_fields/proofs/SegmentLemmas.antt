-- What a path's info fields and hop fields are once they are cut into segments.
use Rattle.std.proofs.Common.{◌≡◌, ◌≤◌, ◌<◌, ℕ, zero, suc, ◌+◌, true, Bool, false, List, [], ◌∷◌, ◌++◌, length, map, take, drop, slice_index, refl, sym, ap, ap₂, ◌∙◌, arith, length-append, length-drop}
use Rattle.std.specs.List.{AllByRecursion, flat_map}
use Rattle.std.proofs.lemmas.List.{append-nil, drop-drop, length-map, length-take-le, take-append-drop, take_all}
use Rattle.std.proofs.lemmas.List.Concat.{flat_map-append}
use Rattle.std.proofs.lemmas.List.Folds.{flat_map-map}
use Rattle.field_rows.specs.Row.{Fits, rows}
use Rattle.scion_packet.specs.Lengths.{first_hop, hop_count, path_len, segment_count, segment_of}
use Rattle.scion_packet.specs.Path.{IsHop, IsPath, IsSegment, Segment, bit, count_hops, hop_number, hop_text, hops_in, hops_text, info_table, infos_text, path_text}
use Rattle.scion_packet.proofs.Runs.{hops_len, infos_len}
use Rattle.scion_packet.proofs.Sizes.{IsHopOf, One, Two, Three, count_few, end_inside, few_hops, hop_is_of, length_case, some_hop}
use Rattle.path_fields.specs.Fields.{hop_field, info_field}
use Rattle.path_fields.specs.Path.{fields_of, place, segments, segments_from}
use Rattle.path_fields.specs.declared.fields.Info.{Info}
use Rattle.path_fields.specs.declared.fields.Hop.{Hop}
use Rattle.path_fields.specs.declared.path.Path.{Path}

-- ---- the sizes of the segments

-- the list of segments has the sizes that the lengths say
pub record HasSizes (ss : List Segment) (lengths : List ℕ) : Type 0 where
  pub count : length ss ≡ segment_count lengths
  pub first : hops_in ss 0 ≡ slice_index lengths 0
  pub second : hops_in ss 1 ≡ slice_index lengths 1
  pub third : hops_in ss 2 ≡ slice_index lengths 2

from_len : (k : ℕ) (lengths : List ℕ) (infos : List Info) (hops : List Hop) → length (segments_from k lengths infos hops) ≡ length infos
from_len k lengths [] hops = refl
from_len k lengths (i ∷ infos) hops = ap suc (from_len (k + 1) lengths infos hops)

hops_in_from : (k j n : ℕ) (lengths : List ℕ) (infos : List Info) (hops : List Hop) → n ≡ k + j → j < length infos → first_hop lengths n + slice_index lengths n ≤ length hops
    → hops_in (segments_from k lengths infos hops) j ≡ slice_index lengths n
hops_in_from k j n lengths [] hops n-is there room = absurd (omega arith)
hops_in_from k zero n lengths (i ∷ infos) hops n-is there room =
    let e : k ≡ n = omega arith in
    rw e (length-map (take (slice_index lengths n) (drop (first_hop lengths n) hops)) hop_field
    ∙ length-take-le (slice_index lengths n) (drop (first_hop lengths n) hops) (omega (arith, length-drop (first_hop lengths n) hops)))
hops_in_from k (suc j) n lengths (i ∷ infos) hops n-is there room = hops_in_from (k + 1) j n lengths infos hops (omega arith) (omega arith) room

none_after : (k j : ℕ) (lengths : List ℕ) (infos : List Info) (hops : List Hop) → length infos ≤ j → hops_in (segments_from k lengths infos hops) j ≡ 0
none_after k j lengths [] hops later = refl
none_after k zero lengths (i ∷ infos) hops later = absurd (omega arith)
none_after k (suc j) lengths (i ∷ infos) hops later = none_after (k + 1) j lengths infos hops (omega arith)

-- a path's segments have the sizes of its lengths
pub path_sizes : (p : Path) → HasSizes (segments p) p.lengths
path_sizes p =
    let l = p.lengths in
    let infos = p.infos.items in
    let hops = p.hops.items in
    let count = from_len 0 l infos hops ∙ p.has_infos in
    let first = hops_in_from 0 0 0 l infos hops refl in
    let second = hops_in_from 0 1 1 l infos hops refl in
    let third = hops_in_from 0 2 2 l infos hops refl in
    elim (length_case l p.lengths_are_lawful) [
      | One some none nothing is ↦ record {
        count = count;
        first = first (omega (arith, p.has_infos)) (omega (arith, p.has_hops));
        second = none_after 0 1 l infos hops (omega (arith, p.has_infos)) ∙ sym none;
        third = none_after 0 2 l infos hops (omega (arith, p.has_infos)) ∙ sym nothing;
      }
      | Two some more nothing is ↦ record {
        count = count;
        first = first (omega (arith, p.has_infos)) (omega (arith, p.has_hops));
        second = second (omega (arith, p.has_infos)) (omega (arith, p.has_hops));
        third = none_after 0 2 l infos hops (omega (arith, p.has_infos)) ∙ sym nothing;
      }
      | Three some more most is ↦ record {
        count = count;
        first = first (omega (arith, p.has_infos)) (omega (arith, p.has_hops));
        second = second (omega (arith, p.has_infos)) (omega (arith, p.has_hops));
        third = third (omega (arith, p.has_infos)) (omega (arith, p.has_hops));
      }
    ]

-- ---- the number of a hop

-- as many hops stand before a segment as its first one says
pub hops_before : (ss : List Segment) (lengths : List ℕ) (k : ℕ) → HasSizes ss lengths → k < 3 → k < length ss → count_hops (take k ss) ≡ first_hop lengths k
hops_before [] lengths k sizes few there = absurd (omega arith)
hops_before (s ∷ ss) lengths zero sizes few there = refl
hops_before (s ∷ ss) lengths (suc zero) sizes few there = omega (arith, sizes.first)
hops_before (s ∷ []) lengths (suc (suc zero)) sizes few there = absurd (omega arith)
hops_before (s ∷ t ∷ ss) lengths (suc (suc zero)) sizes few there = omega (arith, sizes.first, sizes.second)
hops_before (s ∷ ss) lengths (suc (suc (suc k))) sizes few there = absurd (omega arith)

pub all_hops : (ss : List Segment) (lengths : List ℕ) → HasSizes ss lengths → length ss ≤ 3 → count_hops ss ≡ hop_count lengths
all_hops [] lengths sizes few = omega (arith, sizes.first, sizes.second, sizes.third)
all_hops (s ∷ []) lengths sizes few = omega (arith, sizes.first, sizes.second, sizes.third)
all_hops (s ∷ t ∷ []) lengths sizes few = omega (arith, sizes.first, sizes.second, sizes.third)
all_hops (s ∷ t ∷ u ∷ []) lengths sizes few = omega (arith, sizes.first, sizes.second, sizes.third)
all_hops (s ∷ t ∷ u ∷ v ∷ ss) lengths sizes few = absurd (omega arith)

pub few_segments : (p : Path) → (1 ≤ length (segments p)) × (length (segments p) ≤ 3)
few_segments p =
    let count = (path_sizes p).count in
    let some : 1 ≤ segment_count p.lengths = elim (length_case p.lengths p.lengths_are_lawful) [
      | One some none nothing is ↦ omega arith
      | Two some more nothing is ↦ omega arith
      | Three some more most is ↦ omega arith
    ] in
    (omega (arith, count, some), omega (arith, count, count_few p.lengths))

-- ---- the texts

pub infos_are : (k : ℕ) (lengths : List ℕ) (infos : List Info) (hops : List Hop)
    → infos_text (segments_from k lengths infos hops) ≡ flat_map (λ i. rows (info_table (info_field i))) infos
infos_are k lengths [] hops = refl
infos_are k lengths (i ∷ infos) hops = ap (λ t. rows (info_table (info_field i)) ++ t) (infos_are (k + 1) lengths infos hops)

abbrev text_of : List Hop → List ℕ
text_of hops = flat_map (λ h. hop_text (hop_field h)) hops

one_part : (hops : List Hop) → flat_map hop_text (map hop_field hops) ≡ text_of hops
one_part hops = flat_map-map hop_text hop_field hops

one_segment : (a : ℕ) (hops : List Hop) → length hops ≤ a → flat_map hop_text (map hop_field (take a hops)) ++ [] ≡ text_of hops
one_segment a hops all = append-nil _ ∙ one_part (take a hops) ∙ ap text_of (take_all a hops all)

-- what stands before a place of the list, and what stands after it
two_parts : (a : ℕ) (hops : List Hop) (rest : List ℕ) → rest ≡ text_of (drop a hops) → flat_map hop_text (map hop_field (take a hops)) ++ rest ≡ text_of hops
two_parts a hops rest rest-is =
    ap₂ (λ t u. t ++ u) (one_part (take a hops)) rest-is
    ∙ sym (flat_map-append (λ h. hop_text (hop_field h)) (take a hops) (drop a hops))
    ∙ ap text_of (take-append-drop a hops)

three_texts : (lengths : List ℕ) (infos : List Info) (hops : List Hop) → 1 ≤ length infos → length infos ≤ 3 → length hops ≡ hop_count lengths
    → (length infos ≤ 1 → slice_index lengths 1 ≡ 0) → (length infos ≤ 2 → slice_index lengths 2 ≡ 0) → hops_text (segments_from 0 lengths infos hops) ≡ text_of hops
three_texts lengths [] hops some few len one two = absurd (omega arith)
three_texts lengths (i ∷ []) hops some few len one two =
    let none : slice_index lengths 1 ≡ 0 = one (omega arith) in
    let none' : slice_index lengths 2 ≡ 0 = two (omega arith) in
    one_segment (slice_index lengths 0) hops (omega arith)
three_texts lengths (i ∷ j ∷ []) hops some few len one two =
    let a = slice_index lengths 0 in
    let none : slice_index lengths 2 ≡ 0 = two (omega arith) in
    two_parts a hops _ (one_segment (slice_index lengths 1) (drop a hops) (omega (arith, length-drop a hops)))
three_texts lengths (i ∷ j ∷ k ∷ []) hops some few len one two =
    let a = slice_index lengths 0 in
    let b = slice_index lengths 1 in
    let third = one_segment (slice_index lengths 2) (drop (a + b) hops) (omega (arith, length-drop (a + b) hops)) ∙ ap text_of (sym (drop-drop b a hops)) in
    two_parts a hops _ (two_parts b (drop a hops) _ third)
three_texts lengths (i ∷ j ∷ k ∷ l ∷ infos) hops some few len one two = absurd (omega arith)

pub hops_are : (p : Path) → hops_text (segments p) ≡ text_of p.hops.items
hops_are p =
    let few = few_segments p in
    let same = from_len 0 p.lengths p.infos.items p.hops.items in
    let any : 1 ≤ length p.infos.items = omega (arith, few.0, same) in
    let three : length p.infos.items ≤ 3 = omega (arith, few.1, same) in
    let texts = three_texts p.lengths p.infos.items p.hops.items any three p.has_hops in
    elim (length_case p.lengths p.lengths_are_lawful) [
      | One some none nothing is ↦ texts (λ le. none) (λ le. nothing)
      | Two some more nothing is ↦ texts (λ le. absurd (omega (arith, le, p.has_infos))) (λ le. nothing)
      | Three some more most is ↦ texts (λ le. absurd (omega (arith, le, p.has_infos))) (λ le. absurd (omega (arith, le, p.has_infos)))
    ]

-- ---- the current hop

its_segment : (p : Path) → IsHopOf p.lengths p.current_hop (segment_of p.lengths p.current_hop)
its_segment p = hop_is_of p.lengths p.current_hop p.lengths_are_lawful p.current_hop_is_there

-- the number of the current hop is that of its place
pub number_is : (p : Path) → hop_number (segments p) (place p) ≡ p.current_hop
number_is p =
    let its = its_segment p in
    let sizes = path_sizes p in
    let info-is = p.current_info_is_its in
    let few = few_segments p in
    let there : p.current_info < length (segments p) = omega (arith, its.there, info-is, sizes.count) in
    let before = hops_before (segments p) p.lengths p.current_info sizes (omega (arith, few.1)) there in
    let from_first : first_hop p.lengths p.current_info ≤ p.current_hop = rw info-is its.after in
    omega (arith, before, from_first)

hops_in_is : (ss : List Segment) (lengths : List ℕ) (k : ℕ) → HasSizes ss lengths → k < 3 → hops_in ss k ≡ slice_index lengths k
hops_in_is ss lengths zero sizes few = sizes.first
hops_in_is ss lengths (suc zero) sizes few = sizes.second
hops_in_is ss lengths (suc (suc zero)) sizes few = sizes.third
hops_in_is ss lengths (suc (suc (suc k))) sizes few = absurd (omega arith)

-- the current hop is one of the hops of the current segment
pub record InCurrentSegment (p : Path) : Type 0 where
  pub few : p.current_info < 3
  pub there : p.current_info < segment_count p.lengths
  pub from_first : first_hop p.lengths p.current_info ≤ p.current_hop
  pub inside : p.current_hop < first_hop p.lengths p.current_info + slice_index p.lengths p.current_info
  pub size : hops_in (segments p) p.current_info ≡ slice_index p.lengths p.current_info

pub in_current_segment : (p : Path) → InCurrentSegment p
in_current_segment p =
    let its = its_segment p in
    let sizes = path_sizes p in
    let info-is = p.current_info_is_its in
    let info-lt : p.current_info < 3 = omega (arith, its.there, info-is, sizes.count, (few_segments p).1) in
    record {
      few = info-lt;
      there = rw info-is its.there;
      from_first = rw info-is its.after;
      inside = rw info-is its.inside;
      size = hops_in_is (segments p) p.lengths p.current_info sizes info-lt;
    }

-- ---- a path is lawful

bit-lt : (b : Bool) → bit b < 2
bit-lt true = omega arith
bit-lt false = omega arith

info_fits : (i : Info) → Fits (info_table (info_field i))
info_fits i = ((i.reserved_flags_fit, (omega arith, (bit-lt i.along, tt))), ((i.reserved_fits, tt), ((i.segment_id_fits, tt), ((i.timestamp_fits, tt), tt))))

is_hop : (h : Hop) → IsHop (hop_field h)
is_hop h = record {
  fits = ((h.reserved_flags_fit, (bit-lt h.ingress_alert, (bit-lt h.egress_alert, tt))), ((h.expiry_fits, tt), ((h.construction_ingress_fits, tt), ((h.construction_egress_fits, tt), tt))));
  mac_len = h.mac_is_whole;
}

are_hops : (hops : List Hop) → AllByRecursion IsHop (map hop_field hops)
are_hops [] = tt
are_hops (h ∷ hops) = (is_hop h, are_hops hops)

are_segments : (k : ℕ) (lengths : List ℕ) (infos : List Info) (hops : List Hop)
    → ((j : ℕ) → k ≤ j → j < k + length infos → (1 ≤ slice_index lengths j) × (first_hop lengths j + slice_index lengths j ≤ length hops))
    → AllByRecursion IsSegment (segments_from k lengths infos hops)
are_segments k lengths [] hops lens = tt
are_segments k lengths (i ∷ infos) hops lens =
    let here = lens k (omega arith) (omega arith) in
    let m = slice_index lengths k in
    let a = first_hop lengths k in
    let len : length (take m (drop a hops)) ≡ m = length-take-le m (drop a hops) (omega (arith, here.1, length-drop a hops)) in (
      record {
        info = info_fits i;
        hops = are_hops (take m (drop a hops));
        some = omega (arith, length-map (take m (drop a hops)) hop_field, len, here.0);
      },
      are_segments (k + 1) lengths infos hops (λ j from below. lens j (omega (arith, from)) (omega (arith, below))),
    )

pub lawful : (p : Path) → IsPath (fields_of p)
lawful p =
    let its = in_current_segment p in
    let sizes = path_sizes p in
    let few = few_segments p in
    let most = few_hops p.lengths p.lengths_are_lawful in
    let hop-lt : hop_number (segments p) (place p) < 64 = omega (arith, number_is p, p.current_hop_is_there, most) in
    let each : (j : ℕ) → j < segment_count p.lengths → (1 ≤ slice_index p.lengths j) × (first_hop p.lengths j + slice_index p.lengths j ≤ length p.hops.items) =
    λ j below. (some_hop p.lengths j p.lengths_are_lawful below, omega (arith, end_inside p.lengths j p.lengths_are_lawful below, p.has_hops)) in
    record {
      meta = (
        (omega (arith, its.few), (hop-lt, tt)),
        ((p.reserved_fits, (omega (arith, sizes.first, p.lengths_fit.0), (omega (arith, sizes.second, p.lengths_fit.1), (omega (arith, sizes.third, p.lengths_fit.2), tt)))), tt),
      );
      segments = are_segments 0 p.lengths p.infos.items p.hops.items (λ j from below. each j (omega (arith, below, p.has_infos)));
      some = few.0;
      few = few.1;
      hops = omega (arith, all_hops (segments p) p.lengths sizes few.1, most);
      inside = omega (arith, its.size, its.inside, its.from_first);
    }

-- its text is as long as the lengths say
pub text_len : (p : Path) → length (path_text (fields_of p)) ≡ path_len p.lengths
text_len p =
    let ss = segments p in
    let sizes = path_sizes p in
    omega (arith, length-append (infos_text ss) (hops_text ss), infos_len ss, hops_len ss (lawful p).segments, sizes.count, all_hops ss p.lengths sizes (few_segments p).1)
