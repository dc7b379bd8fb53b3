-- A segment's identifier written over the one that stood there: the bytes then spell the path with that
-- identifier.
use Rattle.std.proofs.Common.{◌≡◌, ◌≤◌, ◌<◌, ℕ, zero, suc, ◌+◌, ◌*◌, List, [], ◌∷◌, ◌++◌, length, take, drop, refl, sym, subst, ap, ap₂, ◌∙◌, arith, append_assoc, length-append}
use Rattle.std.specs.List.{flat_map}
use Rattle.std.proofs.lemmas.List.{drop-append-le, take-append-le}
use Rattle.std.proofs.lemmas.List.Sums.{sum_by-cons}
use Rattle.std.proofs.Math.Seq.{drop-append-add, take-append-add}
use Rattle.field_rows.specs.Place.{Puts}
use Rattle.field_rows.specs.Row.{field, row, rows}
use Rattle.scion_packet.specs.Path.{PathFields, Segment, count_hops, hop_number, hop_text, hops_in, hops_text, info_table, infos_text, meta_table, path_text}
use Rattle.path_fields.specs.InPlace.{with_segment_id}

-- ---- a write within a longer text

pub after : (a old new : List ℕ) (at : ℕ) (text : List ℕ) → Puts old new at text → Puts (a ++ old) (a ++ new) (length a + at) text
after a old new at text puts =
    let place : length a + at + length text ≡ length a + (at + length text) = omega arith in
    let front : take (length a + at) (a ++ old) ≡ a ++ take at old = take-append-add a old at in
    let back : drop (length a + at + length text) (a ++ old) ≡ drop (at + length text) old = rw place (drop-append-add a old (at + length text)) in
    record {
      parts = ap (λ t. a ++ t) puts.parts ∙ sym (append_assoc a (take at old) (text ++ drop (at + length text) old)) ∙ ap₂ (λ t u. t ++ (text ++ u)) (sym front) (sym back);
      room = omega (arith, length-append a old, puts.room);
    }

before : (b old new : List ℕ) (at : ℕ) (text : List ℕ) → Puts old new at text → Puts (old ++ b) (new ++ b) at text
before b old new at text puts =
    let short : at ≤ length old = omega (arith, puts.room) in
    let front : take at (old ++ b) ≡ take at old = take-append-le at old b short in
    let back : drop (at + length text) (old ++ b) ≡ drop (at + length text) old ++ b = drop-append-le (at + length text) old b puts.room in
    let end = drop (at + length text) old in
    record {
      parts = ap (λ t. t ++ b) puts.parts ∙ append_assoc (take at old) (text ++ end) b ∙ ap (λ t. take at old ++ t) (append_assoc text end b) ∙ ap₂ (λ t u. t ++ (text ++ u)) (sym front) (sym back);
      room = omega (arith, length-append old b, puts.room);
    }

pub same_write : (old new new' : List ℕ) (at : ℕ) (text : List ℕ) → Puts old new at text → Puts old new' at text → new ≡ new'
same_write old new new' at text p q = p.parts ∙ sym q.parts

-- ---- the parts of the text

-- the identifier of segment k, in the info fields
id_written : (ss : List Segment) (k id : ℕ) → k < length ss → Puts (infos_text ss) (infos_text (with_segment_id ss k id)) (8 * k + 2) (row (field 16 id ∷ []))
id_written [] k id there = absurd (omega arith)
id_written (s ∷ ss) zero id there = record { parts = refl; room = omega arith }
id_written (s ∷ ss) (suc k) id there =
    let place : 8 + (8 * k + 2) ≡ 8 * suc k + 2 = omega arith in
    rw (← place) (after (rows (info_table s.info)) (infos_text ss) (infos_text (with_segment_id ss k id)) (8 * k + 2) (row (field 16 id ∷ [])) (id_written ss k id (omega arith)))

same_hops_text : (ss : List Segment) (k id : ℕ) → hops_text (with_segment_id ss k id) ≡ hops_text ss
same_hops_text [] k id = refl
same_hops_text (s ∷ ss) zero id = refl
same_hops_text (s ∷ ss) (suc k) id = ap (λ t. flat_map hop_text s.hops ++ t) (same_hops_text ss k id)

same_hops_in : (ss : List Segment) (k id j : ℕ) → hops_in (with_segment_id ss k id) j ≡ hops_in ss j
same_hops_in [] k id j = refl
same_hops_in (s ∷ ss) zero id zero = refl
same_hops_in (s ∷ ss) zero id (suc j) = refl
same_hops_in (s ∷ ss) (suc k) id zero = refl
same_hops_in (s ∷ ss) (suc k) id (suc j) = same_hops_in ss k id j

-- as many hops stand before each segment
same_count : (ss : List Segment) (k id n : ℕ) → count_hops (take n (with_segment_id ss k id)) ≡ count_hops (take n ss)
same_count [] k id n = refl
same_count (s ∷ ss) k id zero = refl
same_count (s ∷ ss) zero id (suc n) = refl
same_count (s ∷ ss) (suc k) id (suc n) =
    sum_by-cons (λ t. length t.hops) s (take n (with_segment_id ss k id)) ∙ ap (λ m. length s.hops + m) (same_count ss k id n) ∙ sym (sum_by-cons (λ t. length t.hops) s (take n ss))

abbrev with_id : PathFields → ℕ → ℕ → PathFields
with_id p k id = record p { segments = with_segment_id p.segments k id }

same_meta : (p : PathFields) (k id : ℕ) → rows (meta_table (with_id p k id)) ≡ rows (meta_table p)
same_meta p k id =
    let ss = p.segments in
    let number : hop_number (with_segment_id ss k id) p.place ≡ hop_number ss p.place = ap (λ m. m + p.place.position) (same_count ss k id p.place.segment) in
    rw (number, same_hops_in ss k id 0, same_hops_in ss k id 1, same_hops_in ss k id 2) refl

-- ---- a path

pub id_changed : (p : PathFields) (k id place : ℕ) (old new : List ℕ) → Puts old new place (row (field 16 id ∷ [])) → place ≡ 4 + 8 * k + 2 → old ≡ path_text p → k < length p.segments
    → new ≡ path_text (record p { segments = with_segment_id p.segments k id })
id_changed p k id place old new puts place-is old-is there =
    let meta = rows (meta_table p) in
    let text = row (field 16 id ∷ []) in
    let infos' = infos_text (with_segment_id p.segments k id) in
    let within = after meta _ _ _ text (before (hops_text p.segments) _ _ _ text (id_written p.segments k id there)) in
    let named : Puts (path_text p) (path_text (with_id p k id)) (4 + (8 * k + 2)) text =
    subst (λ t. Puts (path_text p) t (4 + (8 * k + 2)) text)
    (ap₂ (λ t u. t ++ (infos' ++ u)) (sym (same_meta p k id)) (sym (same_hops_text p.segments k id)))
    within in
    let place-named : place ≡ 4 + (8 * k + 2) = omega arith in
    same_write (path_text p) new (path_text (with_id p k id)) (4 + (8 * k + 2)) text (rw (← old-is, ← place-named) puts) named
