-- What is pushed from a list's end to its front is the list in reverse.
use Rattle.std.proofs.Common.{◌≡◌, ◌≢◌, ◌≤◌, ◌<◌, ℕ, zero, suc, ◌+◌, ◌-◌, ◌^◌, true, false, leb, eqb, cond, ◌||◌, ◌⊎◌, inl, inr, List, [], ◌∷◌, ◌++◌, length, map, reverse, take, drop, slice_index, slice_index_or, ap, ap₂, subst, sym, ◌∙◌, refl, arith, length-drop, append_assoc}
use Rattle.std.proofs.lemmas.Bool.{and_from, or_left, or_right, le-leb, eq-eqb, ne_eqb, cond-true, cond-false}
use Rattle.std.proofs.lemmas.List.{drop_at, drop_more, drop-drop, drop-map, length-map, length-reverse, length-take-le, map-append, reverse-append, take_at, take-append-drop, take-map}
use Rattle.scion_packet.specs.Lengths.{are_lengths, first_hop, hop_count, segment_count, segment_of}
use Rattle.scion_packet.specs.Path.{HopField, InfoField, PathFields, Place, Segment, hops_in, place_at}
use Rattle.scion_packet.specs.Places.{mirrored}
use Rattle.scion_packet.specs.Reversed.{cleared_hop, reversed_info, reversed_path, reversed_segment}
use Rattle.scion_packet.proofs.Sizes.{One, Two, Three, few_hops, in_first, in_second, in_third, length_case}
use Rattle.path_fields.specs.Fields.{hop_field, info_field}
use Rattle.path_fields.specs.Path.{fields_of, place, segments, segments_from}
use Rattle.path_fields.specs.Reversed.{reversed_lengths}
use Rattle.path_fields.specs.declared.fields.Info.{Info}
use Rattle.path_fields.specs.declared.fields.Hop.{Hop}
use Rattle.path_fields.specs.declared.path.Path.{Path}
use Rattle.path_fields.proofs.SegmentLemmas.{few_segments, in_current_segment, path_sizes}

-- one more item from the end
pub one_back : {A B : Type 0} (view : A → B) (f : B → B) (xs back : List A) (k : ℕ) (x new : A) → k < length xs
    → map view back ≡ map f (reverse (map view (drop (k + 1) xs))) → x ≡ slice_index_or xs k x → view new ≡ f (view x)
    → map view (back ++ new ∷ []) ≡ map f (reverse (map view (drop k xs)))
one_back view f xs back k x new there same x-is new-is =
    let rest = map view (drop (k + 1) xs) in
    let here : map view (drop k xs) ≡ (view x ∷ []) ++ rest = ap (map view) (drop_more xs k x there) ∙ ap (λ y. view y ∷ rest) (sym x-is) in
    map-append view back (new ∷ [])
    ∙ ap₂ (λ s t. s ++ t ∷ []) same new-is
    ∙ sym (map-append f (reverse rest) (view x ∷ []))
    ∙ ap (map f) (sym (reverse-append (view x ∷ []) rest))
    ∙ ap (λ l. map f (reverse l)) (sym here)

-- ---- parts of a list in reverse

-- what stands between two parts of a list stands between them in reverse
pub part_back : {A : Type 0} (f : A → A) (xs : List A) (m n r : ℕ) → length xs ≡ m + n + r
    → take n (drop r (map f (reverse xs))) ≡ map f (reverse (take n (drop m xs)))
part_back f xs m n r len =
    let front = take m xs in
    let part = take n (drop m xs) in
    let rest = drop (m + n) xs in
    let whole : front ++ (part ++ rest) ≡ xs = ap (λ t. front ++ (part ++ t)) (sym (drop-drop n m xs)) ∙ ap (λ t. front ++ t) (take-append-drop n (drop m xs)) ∙ take-append-drop m xs in
    let back : reverse xs ≡ reverse rest ++ (reverse part ++ reverse front) =
    ap reverse (sym whole) ∙ reverse-append front (part ++ rest) ∙ ap (λ t. t ++ reverse front) (reverse-append part rest) ∙ append_assoc (reverse rest) (reverse part) (reverse front) in
    let rest-len : length (reverse rest) ≡ r = length-reverse rest ∙ length-drop (m + n) xs ∙ omega (arith, len) in
    let part-len : length (reverse part) ≡ n = length-reverse part ∙ length-take-le n (drop m xs) (omega (arith, length-drop m xs, len)) in
    ap (take n) (drop-map f r (reverse xs))
    ∙ take-map f n (drop r (reverse xs))
    ∙ ap (λ t. map f (take n (drop r t))) back
    ∙ ap (λ t. map f (take n t)) (drop_at (reverse rest) (reverse part ++ reverse front) r rest-len)
    ∙ ap (map f) (take_at (reverse part) (reverse front) n part-len)

-- ---- the lengths in reverse

-- what the lengths of a path travelled back have to do with those of the path
pub record IsBack (lengths back : List ℕ) : Type 0 where
  pub lawful : are_lengths back ≡ true
  pub hops : hop_count back ≡ hop_count lengths
  pub segments : segment_count back ≡ segment_count lengths
  pub size : (k : ℕ) → k < segment_count lengths → slice_index back (segment_count lengths - 1 - k) ≡ slice_index lengths k
  pub end : (k : ℕ) → k < segment_count lengths → first_hop back (segment_count lengths - 1 - k) + (first_hop lengths k + slice_index lengths k) ≡ hop_count lengths

are_from : (lengths : List ℕ) → 1 ≤ slice_index lengths 0 → (1 ≤ slice_index lengths 1) ⊎ (slice_index lengths 2 ≡ 0) → hop_count lengths ≤ 64 → are_lengths lengths ≡ true
are_from lengths some more few =
    let b = slice_index lengths 1 in
    let c = slice_index lengths 2 in
    let rest : (leb 1 b || eqb c 0) ≡ true = elim more [ inl is ↦ or_left (leb 1 b) (eqb c 0) (le-leb _ _ is) | inr none ↦ or_right (leb 1 b) (eqb c 0) (eq-eqb _ _ none) ] in
    and_from _ _ (and_from _ _ (le-leb _ _ some) rest) (le-leb _ _ few)

one_end : (lengths : List ℕ) (k : ℕ) → slice_index lengths 1 ≡ 0 → slice_index lengths 2 ≡ 0 → k < 1
    → (let a = slice_index lengths 0 in let back : List ℕ = a ∷ 0 ∷ 0 ∷ [] in
    (slice_index back (1 - 1 - k) ≡ slice_index lengths k) × (first_hop back (1 - 1 - k) + (first_hop lengths k + slice_index lengths k) ≡ hop_count lengths))
one_end lengths zero none none' there = (refl, omega arith)
one_end lengths (suc k) none none' there = absurd (omega arith)

two_end : (lengths : List ℕ) (k : ℕ) → slice_index lengths 2 ≡ 0 → k < 2
    → (let a = slice_index lengths 0 in let b = slice_index lengths 1 in let back : List ℕ = b ∷ a ∷ 0 ∷ [] in
    (slice_index back (2 - 1 - k) ≡ slice_index lengths k) × (first_hop back (2 - 1 - k) + (first_hop lengths k + slice_index lengths k) ≡ hop_count lengths))
two_end lengths zero none there = (refl, omega arith)
two_end lengths (suc zero) none there = (refl, omega arith)
two_end lengths (suc (suc k)) none there = absurd (omega arith)

three_end : (lengths : List ℕ) (k : ℕ) → k < 3
    → (let a = slice_index lengths 0 in let b = slice_index lengths 1 in let c = slice_index lengths 2 in let back : List ℕ = c ∷ b ∷ a ∷ [] in
    (slice_index back (3 - 1 - k) ≡ slice_index lengths k) × (first_hop back (3 - 1 - k) + (first_hop lengths k + slice_index lengths k) ≡ hop_count lengths))
three_end lengths zero there = (refl, omega arith)
three_end lengths (suc zero) there = (refl, omega arith)
three_end lengths (suc (suc zero)) there = (refl, omega arith)
three_end lengths (suc (suc (suc k))) there = absurd (omega arith)

one_segment_back : (lengths : List ℕ) → are_lengths lengths ≡ true → 1 ≤ slice_index lengths 0 → slice_index lengths 1 ≡ 0 → slice_index lengths 2 ≡ 0 → segment_count lengths ≡ 1
    → IsBack lengths (slice_index lengths 0 ∷ 0 ∷ 0 ∷ [])
one_segment_back lengths lawful some none none' count =
    let few : slice_index lengths 0 + 0 + 0 ≤ 64 = omega (arith, few_hops lengths lawful) in
    record {
      lawful = are_from (slice_index lengths 0 ∷ 0 ∷ 0 ∷ []) some (inr refl) few;
      hops = omega arith;
      segments = sym count;
      size = λ k there. rw count (one_end lengths k none none' (omega (arith, there, count))).0;
      end = λ k there. rw count (one_end lengths k none none' (omega (arith, there, count))).1;
    }

two_segments_back : (lengths : List ℕ) → are_lengths lengths ≡ true → 1 ≤ slice_index lengths 0 → 1 ≤ slice_index lengths 1 → slice_index lengths 2 ≡ 0 → segment_count lengths ≡ 2
    → IsBack lengths (slice_index lengths 1 ∷ slice_index lengths 0 ∷ 0 ∷ [])
two_segments_back lengths lawful first some none count =
    let a = slice_index lengths 0 in
    let b = slice_index lengths 1 in
    let few : b + a + 0 ≤ 64 = omega (arith, few_hops lengths lawful) in
    let more : a ≢ 0 = omega (arith, first) in
    record {
      lawful = are_from (b ∷ a ∷ 0 ∷ []) some (inr refl) few;
      hops = omega arith;
      segments = cond-false (eqb a 0) 1 2 (ne_eqb a 0 more) ∙ sym count;
      size = λ k there. rw count (two_end lengths k none (omega (arith, there, count))).0;
      end = λ k there. rw count (two_end lengths k none (omega (arith, there, count))).1;
    }

three_segments_back : (lengths : List ℕ) → are_lengths lengths ≡ true → 1 ≤ slice_index lengths 0 → 1 ≤ slice_index lengths 1 → 1 ≤ slice_index lengths 2 → segment_count lengths ≡ 3
    → IsBack lengths (slice_index lengths 2 ∷ slice_index lengths 1 ∷ slice_index lengths 0 ∷ [])
three_segments_back lengths lawful first some some' count =
    let a = slice_index lengths 0 in
    let b = slice_index lengths 1 in
    let c = slice_index lengths 2 in
    let few : c + b + a ≤ 64 = omega (arith, few_hops lengths lawful) in
    let more : a ≢ 0 = omega (arith, first) in
    let more' : b ≢ 0 = omega arith in
    record {
      lawful = are_from (c ∷ b ∷ a ∷ []) some' (inl some) few;
      hops = omega arith;
      segments = cond-false (eqb b 0) 1 (cond (eqb a 0) 2 3) (ne_eqb b 0 more') ∙ cond-false (eqb a 0) 2 3 (ne_eqb a 0 more) ∙ sym count;
      size = λ k there. rw count (three_end lengths k (omega (arith, there, count))).0;
      end = λ k there. rw count (three_end lengths k (omega (arith, there, count))).1;
    }

pub is_back : (lengths : List ℕ) → are_lengths lengths ≡ true → IsBack lengths (reversed_lengths lengths)
is_back lengths lawful =
    let a = slice_index lengths 0 in
    let b = slice_index lengths 1 in
    let c = slice_index lengths 2 in
    let more = cond (eqb c 0) (b ∷ a ∷ 0 ∷ []) (c ∷ b ∷ a ∷ []) in
    elim (length_case lengths lawful) [
      | One first none nothing count ↦ subst (IsBack lengths) (sym (cond-true (eqb b 0) (a ∷ 0 ∷ 0 ∷ []) more (eq-eqb b 0 none))) (one_segment_back lengths lawful first none nothing count)
      | Two first some nothing count ↦
          subst (IsBack lengths) (sym (cond-false (eqb b 0) (a ∷ 0 ∷ 0 ∷ []) more (ne_eqb b 0 (omega arith)) ∙ cond-true (eqb c 0) (b ∷ a ∷ 0 ∷ []) (c ∷ b ∷ a ∷ []) (eq-eqb c 0 nothing)))
          (two_segments_back lengths lawful first some nothing count)
      | Three first some most count ↦
          subst (IsBack lengths) (sym (cond-false (eqb b 0) (a ∷ 0 ∷ 0 ∷ []) more (ne_eqb b 0 (omega arith)) ∙ cond-false (eqb c 0) (b ∷ a ∷ 0 ∷ []) (c ∷ b ∷ a ∷ []) (ne_eqb c 0 (omega arith))))
          (three_segments_back lengths lawful first some most count)
    ]

-- ---- the current hop in reverse

-- a hop lies in the segment whose hops it is among
its_segment_is : (lengths : List ℕ) (k h : ℕ) → k < 3 → first_hop lengths k ≤ h → h < first_hop lengths k + slice_index lengths k → segment_of lengths h ≡ k
its_segment_is lengths zero h few from below = in_first lengths h (omega arith)
its_segment_is lengths (suc zero) h few from below = in_second lengths h from below
its_segment_is lengths (suc (suc zero)) h few from below = in_third lengths h from
its_segment_is lengths (suc (suc (suc k))) h few from below = absurd (omega arith)

abbrev at_hop : List ℕ → ℕ → ℕ → Place
at_hop lengths info hop = place_at info (hop - first_hop lengths info)

same_place : (k k' i i' : ℕ) → k ≡ k' → i ≡ i' → place_at k i ≡ place_at k' i'
same_place k k' i i' e f = ap₂ place_at e f

-- the place of the hop that has as many hops before it as the current one has after it
place_back : (p : Path) (back : List ℕ) (hop : ℕ) → IsBack p.lengths back → hop + p.current_hop + 1 ≡ hop_count p.lengths
    → at_hop back (segment_of back hop) hop ≡ mirrored (segments p) (place p)
place_back p back hop is hop-is =
    let its = in_current_segment p in
    let sizes = path_sizes p in
    let count = segment_count p.lengths in
    let k = p.current_info in
    let there : k < count = its.there in
    let size = is.size k there in
    let end = is.end k there in
    let k' = count - 1 - k in
    let few : k' < 3 = omega (arith, (few_segments p).1, sizes.count) in
    let from : first_hop back k' ≤ hop = omega (arith, end, its.inside, hop-is) in
    let below : hop < first_hop back k' + slice_index back k' = omega (arith, end, size, its.from_first, hop-is) in
    let segment-is : segment_of back hop ≡ k' = its_segment_is back k' hop few from below in
    ap (λ (n : ℕ). at_hop back n hop) segment-is
    ∙ same_place k' (length (segments p) - 1 - k) (hop - first_hop back k') (hops_in (segments p) k - 1 - (p.current_hop - first_hop p.lengths k)) (ap (λ (n : ℕ). n - 1 - k) (sym sizes.count)) (omega (arith, end, its.size, its.from_first, its.inside, hop-is))

-- ---- the segments in reverse

abbrev part_of : ℕ → List ℕ → InfoField → List HopField → Segment
part_of k lengths info hops = record { info = info; hops = take (slice_index lengths k) (drop (first_hop lengths k) hops) }

-- a path's segments, of the plain records of its fields
abbrev cut : ℕ → List ℕ → List InfoField → List HopField → List Segment
cut k lengths [] hops = []
cut k lengths (i ∷ infos) hops = part_of k lengths i hops ∷ cut (k + 1) lengths infos hops

cut_is : (k : ℕ) (lengths : List ℕ) (infos : List Info) (hops : List Hop) → segments_from k lengths infos hops ≡ cut k lengths (map info_field infos) (map hop_field hops)
cut_is k lengths [] hops = refl
cut_is k lengths (i ∷ infos) hops =
    let n = slice_index lengths k in
    let m = first_hop lengths k in
    let part : map hop_field (take n (drop m hops)) ≡ take n (drop m (map hop_field hops)) = sym (ap (take n) (drop-map hop_field m hops) ∙ take-map hop_field n (drop m hops)) in
    let segment : List HopField → Segment = λ hs. record { info = info_field i; hops = hs } in
    ap₂ (λ s ss. s ∷ ss) (ap segment part) (cut_is (k + 1) lengths infos hops)

segment_back : (lengths back : List ℕ) (hops : List HopField) (info : InfoField) (j k : ℕ) → IsBack lengths back → length hops ≡ hop_count lengths → j + k + 1 ≡ segment_count lengths
    → part_of j back (reversed_info info) (map cleared_hop (reverse hops)) ≡ reversed_segment (part_of k lengths info hops)
segment_back lengths back hops info j k is len at =
    let j-is : segment_count lengths - 1 - k ≡ j = omega arith in
    let there : k < segment_count lengths = omega arith in
    let size : slice_index back j ≡ slice_index lengths k = rw j-is at (is.size k there) in
    let end : first_hop back j + (first_hop lengths k + slice_index lengths k) ≡ hop_count lengths = rw j-is at (is.end k there) in
    let segment : List HopField → Segment = λ hs. record { info = reversed_info info; hops = hs } in
    ap segment (ap (λ n. take n (drop (first_hop back j) (map cleared_hop (reverse hops)))) size ∙ part_back cleared_hop hops (first_hop lengths k) (slice_index lengths k) (first_hop back j) (omega (arith, len, end)))

segments_back : (lengths back : List ℕ) (infos : List InfoField) (hops : List HopField) → IsBack lengths back → length hops ≡ hop_count lengths → length infos ≡ segment_count lengths → length infos ≤ 3
    → cut 0 back (map reversed_info (reverse infos)) (map cleared_hop (reverse hops)) ≡ map reversed_segment (reverse (cut 0 lengths infos hops))
segments_back lengths back [] hops is len count few = refl
segments_back lengths back (i ∷ []) hops is len count few = ap (λ s. s ∷ []) (segment_back lengths back hops i 0 0 is len (omega arith))
segments_back lengths back (i ∷ j ∷ []) hops is len count few =
    ap₂ (λ s t. s ∷ t ∷ []) (segment_back lengths back hops j 0 1 is len (omega arith)) (segment_back lengths back hops i 1 0 is len (omega arith))
segments_back lengths back (i ∷ j ∷ k ∷ []) hops is len count few =
    ap₂ (λ s ss. s ∷ ss) (segment_back lengths back hops k 0 2 is len (omega arith))
    (ap₂ (λ s t. s ∷ t ∷ []) (segment_back lengths back hops j 1 1 is len (omega arith)) (segment_back lengths back hops i 2 0 is len (omega arith)))
segments_back lengths back (i ∷ j ∷ k ∷ l ∷ infos) hops is len count few = absurd (omega arith)

-- ---- the path in reverse

-- as many as there were
pub length_back : {A B : Type 0} (view : A → B) (f : B → B) (xs back : List A) → map view back ≡ map f (reverse (map view xs)) → length back ≡ length xs
length_back view f xs back same =
    sym (length-map back view) ∙ ap length same ∙ length-map (reverse (map view xs)) f ∙ length-reverse (map view xs) ∙ length-map xs view

pub path_back : (p : Path) (lengths : List ℕ) (infos : List Info) (hops : List Hop) (info hop : ℕ) → lengths ≡ reversed_lengths p.lengths
    → map info_field infos ≡ map reversed_info (reverse (map info_field p.infos.items)) → map hop_field hops ≡ map cleared_hop (reverse (map hop_field p.hops.items))
    → info ≡ segment_of lengths hop → hop + p.current_hop + 1 ≡ hop_count p.lengths
    → (let back : PathFields = record { reserved = 0; place = at_hop lengths info hop; segments = segments_from 0 lengths infos hops } in back ≡ reversed_path (fields_of p))
path_back p lengths infos hops info hop lengths-are infos-are hops-are info-is hop-is =
    let is : IsBack p.lengths lengths = rw lengths-are (is_back p.lengths p.lengths_are_lawful) in
    let infos' = map info_field p.infos.items in
    let hops' = map hop_field p.hops.items in
    let count : length infos' ≡ segment_count p.lengths = length-map p.infos.items info_field ∙ p.has_infos in
    let few : length infos' ≤ 3 = omega (arith, count, (few_segments p).1, (path_sizes p).count) in
    let at : at_hop lengths info hop ≡ mirrored (segments p) (place p) = ap (λ (k : ℕ). at_hop lengths k hop) info-is ∙ place_back p lengths hop is hop-is in
    let parts : segments_from 0 lengths infos hops ≡ map reversed_segment (reverse (segments p)) =
    cut_is 0 lengths infos hops
    ∙ ap₂ (cut 0 lengths) infos-are hops-are
    ∙ segments_back p.lengths lengths infos' hops' is (length-map p.hops.items hop_field ∙ p.has_hops) count few
    ∙ ap (λ ss. map reversed_segment (reverse ss)) (sym (cut_is 0 p.lengths p.infos.items p.hops.items)) in
    let with : Place → List Segment → PathFields = λ place segments. record { reserved = 0; place = place; segments = segments } in
    ap₂ with at parts

-- the lengths in reverse have room where the lengths have
abbrev HaveRoom : List ℕ → Type 0
HaveRoom lengths = (slice_index lengths 0 < 2 ^ 6) × (slice_index lengths 1 < 2 ^ 6) × (slice_index lengths 2 < 2 ^ 6)

pub room_back : (lengths : List ℕ) → HaveRoom lengths → HaveRoom (reversed_lengths lengths)
room_back lengths room =
    let a = slice_index lengths 0 in
    let b = slice_index lengths 1 in
    let c = slice_index lengths 2 in
    let none : 0 < 2 ^ 6 = omega arith in
    elim (eqb b 0) as (λ v. HaveRoom (cond v (a ∷ 0 ∷ 0 ∷ []) (cond (eqb c 0) (b ∷ a ∷ 0 ∷ []) (c ∷ b ∷ a ∷ [])))) [
      | true ↦ (room.0, none, none)
      | false ↦ elim (eqb c 0) as (λ v. HaveRoom (cond v (b ∷ a ∷ 0 ∷ []) (c ∷ b ∷ a ∷ []))) [ true ↦ (room.1, room.0, none) | false ↦ (room.2, room.1, room.0) ]
    ]
