-- Byte by byte: what a changed cursor and a changed identifier change of a path's text, and of a datagram's.
use Rattle.std.proofs.Common.{◌≡◌, ◌⊎◌, ◌≤◌, ◌<◌, ◌+◌, ◌-◌, ◌*◌, ℕ, zero, suc, List, [], ◌∷◌, ◌++◌, length, slice_index, Option, Some, None, refl, sym, ap, ap₂, subst, ◌∙◌, arith, inl, inr}
use Rattle.std.specs.List.{flat_map}
use Rattle.std.proofs.lemmas.Bool.{cases_lt}
use Rattle.std.proofs.lemmas.List.{get_or-append_right, get_or_append_left}
use Rattle.field_rows.specs.Place.{IsBytes}
use Rattle.field_rows.specs.Row.{rows}
use Rattle.path_fields.specs.InPlace.{with_segment_id}
use Rattle.scion_packet.specs.Path.{PathFields, Place, Segment, hop_number, hop_text, hops_in, hops_text, info_table, infos_text, meta_table, path_text}
use Rattle.scion_packet.proofs.Runs.{infos_len}
use Rattle.process_packet.specs.PacketView.{IsAlike, with_id}
use Rattle.process_packet.proofs.AlikeLemmas.{alike_set}

-- Each byte is as it was, or stands at such a place, and is a byte.
pub record IsRewritten (Q : ℕ → Type 0) (old new : List ℕ) : Type 0 where
  pub each : (i : ℕ) → (slice_index new i ≡ slice_index old i) ⊎ (Q i × (slice_index new i < 256))

abbrev Byte : (ℕ → Type 0) → List ℕ → List ℕ → ℕ → Type 0
Byte Q old new i = (slice_index new i ≡ slice_index old i) ⊎ (Q i × (slice_index new i < 256))

kept : (Q : ℕ → Type 0) (xs : List ℕ) → IsRewritten Q xs xs
kept Q xs = record { each = λ i. inl refl }

then_by : (Q R : ℕ → Type 0) (a b c : List ℕ) (i : ℕ) → Byte Q a b i → Byte R b c i → Byte (λ (j : ℕ). Q j ⊎ R j) a c i
then_by Q R a b c i first (inr second) = inr (inr second.0, second.1)
then_by Q R a b c i (inl same) (inl stays) = inl (stays ∙ same)
then_by Q R a b c i (inr changed) (inl stays) = inr (inl changed.0, subst (λ (n : ℕ). n < 256) (sym stays) changed.1)

pub rewritten_then : (Q R : ℕ → Type 0) (a b c : List ℕ) → IsRewritten Q a b → IsRewritten R b c → IsRewritten (λ (j : ℕ). Q j ⊎ R j) a c
rewritten_then Q R a b c first second = record { each = λ i. then_by Q R a b c i (first.each i) (second.each i) }

more_places : (Q R : ℕ → Type 0) (a b : List ℕ) → ((i : ℕ) → Q i → R i) → IsRewritten Q a b → IsRewritten R a b
more_places Q R a b within rewritten = record {
  each = λ i. elim (rewritten.each i) [ inl same ↦ inl same | inr changed ↦ inr (within i changed.0, changed.1) ];
}

-- ---- after a text, and before one

-- a place after n bytes
abbrev pub AfterFront : ℕ → (ℕ → Type 0) → ℕ → Type 0
AfterFront front Q i = (front ≤ i) × Q (i - front)

after : (Q : ℕ → Type 0) (front xs ys : List ℕ) → IsRewritten Q xs ys → IsRewritten (AfterFront (length front) Q) (front ++ xs) (front ++ ys)
after Q front xs ys rewritten = record {
  each = λ i. elim (cases_lt i (length front)) [
    | inl below ↦ inl (get_or_append_left front ys 0 i below ∙ sym (get_or_append_left front xs 0 i below))
    | inr above ↦
        let old : slice_index (front ++ xs) i ≡ slice_index xs (i - length front) = get_or-append_right front xs (length front) i 0 refl above in
        let new : slice_index (front ++ ys) i ≡ slice_index ys (i - length front) = get_or-append_right front ys (length front) i 0 refl above in
        elim (rewritten.each (i - length front)) [
          | inl same ↦ inl (new ∙ same ∙ sym old)
          | inr changed ↦ inr ((above, changed.0), subst (λ (n : ℕ). n < 256) (sym new) changed.1)
        ]
  ];
}

before : (Q : ℕ → Type 0) (xs ys rest : List ℕ) → length xs ≡ length ys → IsRewritten Q xs ys → IsRewritten Q (xs ++ rest) (ys ++ rest)
before Q xs ys rest len rewritten = record {
  each = λ j. elim (cases_lt j (length xs)) [
    | inl below ↦
        let old : slice_index (xs ++ rest) j ≡ slice_index xs j = get_or_append_left xs rest 0 j below in
        let new : slice_index (ys ++ rest) j ≡ slice_index ys j = get_or_append_left ys rest 0 j (omega arith) in
        elim (rewritten.each j) [
          | inl same ↦ inl (new ∙ same ∙ sym old)
          | inr changed ↦ inr (changed.0, subst (λ (n : ℕ). n < 256) (sym new) changed.1)
        ]
    | inr above ↦
        let old : slice_index (xs ++ rest) j ≡ slice_index rest (j - length xs) = get_or-append_right xs rest (length xs) j 0 refl above in
        let new : slice_index (ys ++ rest) j ≡ slice_index rest (j - length xs) = get_or-append_right ys rest (length xs) j 0 (sym len) above in
        inl (new ∙ sym old)
  ];
}

-- ---- an identifier

-- the two bytes of a segment's identifier, in the info fields, and in the bytes of a path
abbrev IsIdOfInfos : ℕ → ℕ → Type 0
IsIdOfInfos k i = (i ≡ 8 * k + 2) ⊎ (i ≡ 8 * k + 2 + 1)

abbrev pub IsIdPlace : ℕ → ℕ → Type 0
IsIdPlace k i = (i ≡ 4 + 8 * k + 2) ⊎ (i ≡ 4 + 8 * k + 2 + 1)

first_info : (s : Segment) (ss : List Segment) (id i : ℕ) → Byte (IsIdOfInfos 0) (infos_text (s ∷ ss)) (infos_text (with_segment_id (s ∷ ss) 0 id)) i
first_info s ss id zero = inl refl
first_info s ss id (suc zero) = inl refl
first_info s ss id (suc (suc zero)) = inr (inl refl, omega arith)
first_info s ss id (suc (suc (suc zero))) = inr (inr refl, omega arith)
first_info s ss id (suc (suc (suc (suc i)))) = inl refl

next_place : (k i : ℕ) → AfterFront 8 (IsIdOfInfos k) i → IsIdOfInfos (suc k) i
next_place k i (above, inl high) = inl (omega arith)
next_place k i (above, inr low) = inr (omega arith)

infos_rewritten : (ss : List Segment) (k id : ℕ) → IsRewritten (IsIdOfInfos k) (infos_text ss) (infos_text (with_segment_id ss k id))
infos_rewritten [] k id = kept (IsIdOfInfos k) []
infos_rewritten (s ∷ ss) zero id = record { each = first_info s ss id }
infos_rewritten (s ∷ ss) (suc k) id =
    let old = infos_text ss in
    let new = infos_text (with_segment_id ss k id) in
    more_places (AfterFront 8 (IsIdOfInfos k)) (IsIdOfInfos (suc k)) (infos_text (s ∷ ss)) (infos_text (with_segment_id (s ∷ ss) (suc k) id)) (next_place k)
    (after (IsIdOfInfos k) (rows (info_table s.info)) old new (infos_rewritten ss k id))

same_hops_text : (ss : List Segment) (k id : ℕ) → hops_text (with_segment_id ss k id) ≡ hops_text ss
same_hops_text [] k id = refl
same_hops_text (s ∷ ss) zero id = refl
same_hops_text (s ∷ ss) (suc k) id = ap (λ (t : List ℕ). flat_map hop_text s.hops ++ t) (same_hops_text ss k id)

abbrev with_one : PathFields → ℕ → ℕ → PathFields
with_one p k id = record p { segments = with_segment_id p.segments k id }

same_meta : (p : PathFields) (k id : ℕ) → rows (meta_table (with_one p k id)) ≡ rows (meta_table p)
same_meta p k id =
    let ss = p.segments in
    let alike : IsAlike k ss (with_segment_id ss k id) = alike_set ss k id in
    let number : hop_number (with_segment_id ss k id) p.place ≡ hop_number ss p.place = alike.number p.place in
    let one : hops_in (with_segment_id ss k id) 0 ≡ hops_in ss 0 = alike.hops 0 in
    let two : hops_in (with_segment_id ss k id) 1 ≡ hops_in ss 1 = alike.hops 1 in
    let three : hops_in (with_segment_id ss k id) 2 ≡ hops_in ss 2 = alike.hops 2 in
    rw (number, one, two, three) refl

path_place : (k i : ℕ) → AfterFront 4 (IsIdOfInfos k) i → IsIdPlace k i
path_place k i (above, inl high) = inl (omega arith)
path_place k i (above, inr low) = inr (omega arith)

pub id_rewritten : (p : PathFields) (k id : ℕ) → IsRewritten (IsIdPlace k) (path_text p) (path_text (record p { segments = with_segment_id p.segments k id }))
id_rewritten p k id =
    let ss = p.segments in
    let ts = with_segment_id ss k id in
    let meta = rows (meta_table p) in
    let hops = hops_text ss in
    let count = (alike_set ss k id).count in
    let old-len = infos_len ss in
    let new-len = infos_len ts in
    let len : length (infos_text ss) ≡ length (infos_text ts) = omega arith in
    let all = after (IsIdOfInfos k) meta (infos_text ss ++ hops) (infos_text ts ++ hops) (before (IsIdOfInfos k) (infos_text ss) (infos_text ts) hops len (infos_rewritten ss k id)) in
    let placed = more_places (AfterFront 4 (IsIdOfInfos k)) (IsIdPlace k) (path_text p) (meta ++ (infos_text ts ++ hops)) (path_place k) all in
    subst (λ (t : List ℕ). IsRewritten (IsIdPlace k) (path_text p) t) (ap₂ (λ (m h : List ℕ). m ++ (infos_text ts ++ h)) (sym (same_meta p k id)) (sym (same_hops_text ss k id))) placed

pub ids_rewritten : (o : Option ℕ) (p : PathFields) (k : ℕ) → IsRewritten (IsIdPlace k) (path_text p) (path_text (record p { segments = with_id o k p.segments }))
ids_rewritten None p k = kept (IsIdPlace k) (path_text p)
ids_rewritten (Some id) p k = id_rewritten p k id

-- ---- the cursor

cursor_byte : (p : PathFields) (at : Place) (i : ℕ) → Byte (λ (j : ℕ). j ≡ 0) (path_text p) (path_text (record p { place = at })) i
cursor_byte p at zero = inr (refl, omega arith)
cursor_byte p at (suc i) = inl refl

pub cursor_rewritten : (p : PathFields) (at : Place) → IsRewritten (λ (j : ℕ). j ≡ 0) (path_text p) (path_text (record p { place = at }))
cursor_rewritten p at = record { each = cursor_byte p at }

-- ---- a datagram

pub datagram_rewritten : (Q : ℕ → Type 0) (front xs ys rest : List ℕ) → length xs ≡ length ys → IsRewritten Q xs ys
    → IsRewritten (AfterFront (length front) Q) (front ++ (xs ++ rest)) (front ++ (ys ++ rest))
datagram_rewritten Q front xs ys rest len rewritten = after Q front (xs ++ rest) (ys ++ rest) (before Q xs ys rest len rewritten)

pub bytes_stay : (Q : ℕ → Type 0) (old new : List ℕ) → IsRewritten Q old new → IsBytes old → IsBytes new
bytes_stay Q old new rewritten are i =
    elim (rewritten.each i) [ inl same ↦ subst (λ (n : ℕ). n < 256) (sym same) (are i) | inr changed ↦ changed.1 ]
