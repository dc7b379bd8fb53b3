-- The fields that are written one after the other are the text of the path.
use Rattle.std.proofs.Common.{◌≡◌, ◌<◌, ℕ, ◌+◌, ◌*◌, List, [], ◌∷◌, ◌++◌, length, take, get_or, slice_index, refl, subst, ap, ap₂, sym, ◌∙◌, arith, length-append}
use Rattle.std.specs.List.{flat_map}
use Rattle.std.proofs.lemmas.List.{append-nil, take_more}
use Rattle.std.proofs.lemmas.List.Concat.{flat_map-append}
use Rattle.field_rows.specs.Place.{Puts}
use Rattle.field_rows.specs.Row.{field, rows}
use Rattle.scion_packet.specs.Lengths.{hops_place}
use Rattle.scion_packet.specs.Path.{cursor_row, hop_number, hop_text, hops_in, hops_text, info_table, infos_text, path_text}
use Rattle.path_fields.specs.Fields.{hop_field, info_field}
use Rattle.path_fields.specs.Path.{fields_of, place as place_of, segments}
use Rattle.path_fields.specs.declared.fields.Hop.{Hop}
use Rattle.path_fields.specs.declared.fields.Info.{Info}
use Rattle.path_fields.specs.declared.path.Path.{Path}
use Rattle.path_fields.proofs.SegmentLemmas.{hops_are, infos_are, number_is, path_sizes}
use Rattle.field_rows.proofs.Rows.{Puts-next, Puts-then}

-- what has been written of a list of fields, each of n bytes
pub record FieldsWritten {X : Type 0} (n : ℕ) (text : X → List ℕ) (old new : List ℕ) (at place : ℕ) (xs : List X) : Type 0 where
  pub all : Puts old new at (flat_map text xs)
  pub place_is : place ≡ at + n * length xs

pub texts_len : {X : Type 0} (n : ℕ) (text : X → List ℕ) (xs : List X) → ((x : X) → length (text x) ≡ n) → length (flat_map text xs) ≡ n * length xs
texts_len n text [] len = omega arith
texts_len n text (x ∷ xs) len = omega (arith, length-append (text x) (flat_map text xs), len x, texts_len n text xs len)

pub one_more_written : {X : Type 0} (n : ℕ) (text : X → List ℕ) (old mid new : List ℕ) (at place k : ℕ) (all : List X) (x : X) → ((y : X) → length (text y) ≡ n)
    → k < length all → x ≡ get_or all k x → FieldsWritten n text old mid at place (take k all)
    → Puts mid new place (text x) → FieldsWritten n text old new at (place + n) (take (k + 1) all)
one_more_written n text old mid new at place k all x len inside x-is before here =
    let front = take k all in
    let more : take (k + 1) all ≡ front ++ x ∷ [] = take_more all k x inside ∙ ap (λ y. front ++ y ∷ []) (sym x-is) in
    let longer : length (front ++ x ∷ []) ≡ length front + 1 = length-append front (x ∷ []) in
    let place-is : place ≡ at + length (flat_map text front) = before.place_is ∙ ap (λ (m : ℕ). at + m) (sym (texts_len n text front len)) in
    let texts : flat_map text (front ++ x ∷ []) ≡ flat_map text front ++ text x = flat_map-append text front (x ∷ []) ∙ ap (λ (t : List ℕ). flat_map text front ++ t) (append-nil (text x)) in
    record {
      all = rw (more, texts) (Puts-next old mid new at place _ _ before.all here place-is);
      place_is = rw (more, longer) (omega (arith, before.place_is));
    }

pub hop_len : (h : Hop) → length (hop_text (hop_field h)) ≡ 12
hop_len h = omega (arith, h.mac_is_whole)

pub infos_len : (infos : List Info) → length (flat_map (λ i. rows (info_table (info_field i))) infos) ≡ 8 * length infos
infos_len infos = texts_len 8 (λ i. rows (info_table (info_field i))) infos (λ i. refl)

abbrev meta_text : ℕ → ℕ → ℕ → ℕ → ℕ → ℕ → List ℕ
meta_text segment hop reserved a b c = rows (cursor_row segment hop ∷ (field 6 reserved ∷ field 6 a ∷ field 6 b ∷ field 6 c ∷ []) ∷ [])

same_meta : (segment hop hop' reserved a a' b b' c c' : ℕ) → hop ≡ hop' → a ≡ a' → b ≡ b' → c ≡ c' → meta_text segment hop reserved a b c ≡ meta_text segment hop' reserved a' b' c'
same_meta segment hop hop' reserved a a' b b' c c' hop-is a-is b-is c-is = rw (hop-is, a-is, b-is, c-is) refl

-- all of a path
pub path_written : (p : Path) (s0 s1 s2 s3 infos hops : List ℕ) (place : ℕ)
    → Puts s0 s1 0 (meta_text p.current_info p.current_hop p.reserved (slice_index p.lengths 0) (slice_index p.lengths 1) (slice_index p.lengths 2))
    → Puts s1 s2 4 infos → infos ≡ flat_map (λ i. rows (info_table (info_field i))) p.infos.items
    → Puts s2 s3 place hops → hops ≡ flat_map (λ h. hop_text (hop_field h)) p.hops.items → place ≡ hops_place p.lengths
    → Puts s0 s3 0 (path_text (fields_of p))
path_written p s0 s1 s2 s3 infos hops place meta first infos-is second hops-is place-is =
    let sizes = path_sizes p in
    let tail : Puts s1 s3 4 (infos ++ hops) = Puts-next s1 s2 s3 4 place infos hops first second (omega (arith, place-is, ap length infos-is, infos_len p.infos.items, p.has_infos)) in
    let all = Puts-then s0 s1 s3 0 _ (infos ++ hops) meta tail in
    let metas = same_meta p.current_info (hop_number (segments p) (place_of p)) p.current_hop p.reserved (hops_in (segments p) 0) (slice_index p.lengths 0) (hops_in (segments p) 1) (slice_index p.lengths 1) (hops_in (segments p) 2) (slice_index p.lengths 2) (number_is p) sizes.first sizes.second sizes.third in
    let fields : infos ++ hops ≡ infos_text (segments p) ++ hops_text (segments p) = ap₂ (λ t u. t ++ u) (infos-is ∙ sym (infos_are 0 p.lengths p.infos.items p.hops.items)) (hops-is ∙ sym (hops_are p)) in
    subst (λ t. Puts s0 s3 0 t) (ap₂ (λ t u. t ++ u) (sym metas) fields) all
