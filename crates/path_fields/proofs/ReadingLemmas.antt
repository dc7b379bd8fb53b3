-- The fields that are read one after the other are those of the path.
use Rattle.std.proofs.Common.{◌≡◌, ◌≢◌, ◌==◌, ◌≤◌, ◌<◌, ℕ, zero, suc, ◌+◌, ◌-◌, ◌*◌, ◌/◌, ◌%◌, true, false, List, [], ◌∷◌, ◌++◌, map, take, drop, slice_index, refl, sym, ap, ap₂, ◌∙◌, arith}
use Rattle.std.specs.List.{range_with_len}
use Rattle.std.proofs.lemmas.Bool.{eq-eqb, ne_eqb, and_from, and_left, and_right}
use Rattle.std.proofs.lemmas.List.{map-append, drop-map, take-map}
use Rattle.std.proofs.lemmas.List.FromFn.{map-range_with_len_more, take-map-range_with_len}
use Rattle.scion_packet.specs.Lengths.{first_hop, hop_count, hop_place, hops_place, info_place, segment_count}
use Rattle.scion_packet.specs.Path.{HopField, PathFields, Segment, current_hop, current_info, hop_at, info_at, lengths_of, meta_field, no_peering, path_of, place_at, segment_at, segments_at}
use Rattle.scion_packet.proofs.Sizes.{count_few}
use Rattle.path_fields.specs.Fields.{hop_field, info_field}
use Rattle.path_fields.specs.Path.{segments_from}
use Rattle.path_fields.specs.declared.fields.Info.{Info}
use Rattle.path_fields.specs.declared.fields.Hop.{Hop}

-- ---- the peering flags

stays_false : (k d : ℕ) (path : List ℕ) → no_peering k path ≡ false → no_peering (k + d) path ≡ false
stays_false k zero path found =
    let same : k + zero ≡ k = omega arith in
    ap (λ (n : ℕ). no_peering n path) same ∙ found
stays_false k (suc d) path found =
    let next : k + suc d ≡ suc (k + d) = omega arith in
    ap (λ (n : ℕ). no_peering n path) next ∙ and_left (no_peering (k + d) path) (slice_index path (info_place (k + d)) / 2 % 2 == 0) (stays_false k d path found)

-- a peering flag that is set is found
pub peering_found : (k count : ℕ) (path : List ℕ) → k < count → slice_index path (info_place k) / 2 % 2 ≢ 0 → no_peering count path ≡ false
peering_found k count path there set =
    let here : no_peering (suc k) path ≡ false = and_right (no_peering k path) (slice_index path (info_place k) / 2 % 2 == 0) (ne_eqb _ 0 set) in
    let all : suc k + (count - suc k) ≡ count = omega arith in
    ap (λ (n : ℕ). no_peering n path) (sym all) ∙ stays_false (suc k) (count - suc k) path here

pub clear_more : (k : ℕ) (path : List ℕ) → no_peering k path ≡ true → slice_index path (info_place k) / 2 % 2 ≡ 0 → no_peering (k + 1) path ≡ true
clear_more k path before clear =
    let next : k + 1 ≡ suc k = omega arith in
    ap (λ (n : ℕ). no_peering n path) next ∙ and_from (no_peering k path) (slice_index path (info_place k) / 2 % 2 == 0) before (eq-eqb _ 0 clear)

-- ---- one more field

pub one_more : {X Y : Type 0} (g : X → Y) (f : ℕ → Y) (xs : List X) (x : X) (k : ℕ) → map g xs ≡ map f (range_with_len 0 k) → g x ≡ f k
    → map g (xs ++ x ∷ []) ≡ map f (range_with_len 0 (k + 1))
one_more g f xs x k before here =
    map-append g xs (x ∷ []) ∙ ap (λ t. t ++ g x ∷ []) before ∙ ap (λ y. map f (range_with_len 0 k) ++ y ∷ []) here ∙ sym (map-range_with_len_more f 0 k k (omega arith))

-- ---- all fields

-- a part of what a range gives
drop_range : {Y : Type 0} (f : ℕ → Y) (a b n : ℕ) → b ≤ n → drop b (map f (range_with_len a n)) ≡ map f (range_with_len (a + b) (n - b))
drop_range f a zero n room = let e : a + 0 ≡ a = omega arith in let e' : n - 0 ≡ n = omega arith in rw (e, e') refl
drop_range f a (suc b) zero room = absurd (omega arith)
drop_range f a (suc b) (suc n) room =
    let less : b ≤ n = omega arith in
    let e : a + 1 + b ≡ a + suc b = omega arith in
    let e' : suc n - suc b ≡ n - b = omega arith in
    rw e' (drop_range f (a + 1) b n less ∙ ap (λ k. map f (range_with_len k (n - b))) e)

range_part : {Y : Type 0} (f : ℕ → Y) (a m n : ℕ) → a + m ≤ n → take m (drop a (map f (range_with_len 0 n))) ≡ map f (range_with_len a m)
range_part f a m n room =
    let less : m ≤ n - a = omega arith in
    let from : 0 + a ≡ a = omega arith in
    ap (take m) (drop_range f 0 a n (omega arith) ∙ ap (λ j. map f (range_with_len j (n - a))) from) ∙ take-map-range_with_len f a (n - a) m less

-- the same of the fields that were read
fields_part : {X Y : Type 0} (g : X → Y) (f : ℕ → Y) (a m n : ℕ) (xs : List X) → map g xs ≡ map f (range_with_len 0 n) → a + m ≤ n → map g (take m (drop a xs)) ≡ map f (range_with_len a m)
fields_part g f a m n xs are room =
    sym (take-map g m (drop a xs)) ∙ ap (take m) (sym (drop-map g a xs)) ∙ ap (λ t. take m (drop a t)) are ∙ range_part f a m n room

abbrev Whole : List ℕ → ℕ → Type 0
Whole lengths k = first_hop lengths k + slice_index lengths k ≤ hop_count lengths

same_from : (path lengths : List ℕ) (k n : ℕ) (infos : List Info) (hops : List Hop)
    → map info_field infos ≡ map (λ j. info_at path (info_place j)) (range_with_len k n)
    → map hop_field hops ≡ map (λ j. hop_at path (hop_place lengths j)) (range_with_len 0 (hop_count lengths))
    → ((j : ℕ) → j < k + n → Whole lengths j)
    → segments_from k lengths infos hops ≡ map (segment_at lengths path) (range_with_len k n)
same_from path lengths k zero [] hops infos-are hops-are whole = refl
same_from path lengths k zero (i ∷ infos) hops infos-are hops-are whole = absurd cc
same_from path lengths k (suc n) [] hops infos-are hops-are whole = absurd cc
same_from path lengths k (suc n) (i ∷ infos) hops infos-are hops-are whole =
    let f : ℕ → HopField = λ j. hop_at path (hop_place lengths j) in
    let a = first_hop lengths k in
    let m = slice_index lengths k in
    let first : info_field i ≡ info_at path (info_place k) = cc in
    let others : map info_field infos ≡ map (λ j. info_at path (info_place j)) (range_with_len (k + 1) n) = cc in
    let part : map hop_field (take m (drop a hops)) ≡ map f (range_with_len a m) = fields_part hop_field f a m (hop_count lengths) hops hops-are (whole k (omega arith)) in
    let rest = same_from path lengths (k + 1) n infos hops others hops-are (λ j below. whole j (omega (arith, below))) in
    let here : Segment = record { info = info_field i; hops = map hop_field (take m (drop a hops)) } in
    let same : here ≡ segment_at lengths path k = ap₂ (λ x y. record { info = x; hops = y }) first part in
    ap₂ (λ s ss. s ∷ ss) same rest

all_whole : (lengths : List ℕ) (j : ℕ) → j < 3 → Whole lengths j
all_whole lengths zero below = omega arith
all_whole lengths (suc zero) below = omega arith
all_whole lengths (suc (suc zero)) below = omega arith
all_whole lengths (suc (suc (suc j))) below = absurd (omega arith)

pub same_fields : (path lengths : List ℕ) (reserved info hop count place all : ℕ) (infos : List Info) (hops : List Hop)
    → reserved ≡ meta_field path 18 6 → info ≡ current_info path → hop ≡ current_hop path → lengths ≡ lengths_of path
    → count ≡ segment_count lengths → place ≡ hops_place lengths → all ≡ hop_count lengths
    → map info_field infos ≡ map (λ j. info_at path (info_place j)) (range_with_len 0 count)
    → map hop_field hops ≡ map (λ j. hop_at path (place + 12 * j)) (range_with_len 0 all)
    → (let p : PathFields = record { reserved = reserved; place = place_at info (hop - first_hop lengths info); segments = segments_from 0 lengths infos hops } in p ≡ path_of path)
same_fields path lengths reserved info hop count place all infos hops reserved-is info-is hop-is lengths-is count-is place-is all-is infos-are hops-are =
    let few : segment_count lengths ≤ 3 = count_few lengths in
    let infos-named = infos-are ∙ ap (λ n. map (λ j. info_at path (info_place j)) (range_with_len 0 n)) count-is in
    let hops-named = hops-are ∙ ap (λ n. map (λ j. hop_at path (n + 12 * j)) (range_with_len 0 all)) place-is ∙ ap (λ n. map (λ j. hop_at path (hop_place lengths j)) (range_with_len 0 n)) all-is in
    let cut : segments_from 0 lengths infos hops ≡ segments_at lengths path = same_from path lengths 0 (segment_count lengths) infos hops infos-named hops-named (λ j below. all_whole lengths j (omega (arith, below))) in
    let named : segments_at lengths path ≡ segments_at (lengths_of path) path = ap (λ l. segments_at l path) lengths-is in
    let position : hop - first_hop lengths info ≡ current_hop path - first_hop (lengths_of path) (current_info path) = rw (hop-is, info-is, lengths-is) refl in
    rw (reserved-is, position, info-is, cut, named) refl
